-- The node table: the rows of a tree, and what a lent table holds after a read. Assumes nothing.
use Rattle.std.specs.Prelude.{ℕ, suc, ◌+◌, ◌-◌, ◌*◌, cond, List, [], ◌∷◌, ◌++◌, length, get_or, drop, replicate, eqb, leb}
use Rattle.cel_text.specs.Tree.{Kind, array, object, function, Key, unkeyed, key, Tree, string, container, Trees, ∅, ◌▸◌∶◌, nodes_all, count}
use Rattle.cel_text.specs.Reading.{max_nodes}

abbrev pub Words : Type 0
Words = List ℕ

-- “the kind: 1 for a string, 2 for an array, 3 for an object, 4 for a function”
abbrev pub string_kind : ℕ
string_kind = 1

abbrev pub kind_number : Kind → ℕ
kind_number array = 2
kind_number object = 3
kind_number function = 4

-- “the ends of its key where the node is an entry; 0 and 0 elsewhere”
abbrev pub key_from : Key → ℕ
key_from unkeyed = 0
key_from (key from to) = from

abbrev pub key_to : Key → ℕ
key_to unkeyed = 0
key_to (key from to) = to

-- “The node table has a row of eight words for each node, and the row of node n begins at word 8n.”
abbrev pub row_words : ℕ
row_words = 8

-- the kind; “the ends of an object's or a function's name, or of a string's content; 0 and 0 for an array”; those of the key; “the parent's number plus 1; 0
-- for the root”; “how many children it has”; “1 more than the greatest number in its subtree”
abbrev pub row : (kind from to : ℕ) → Key → (parent children past : ℕ) → Words
row kind from to k parent children past = kind ∷ from ∷ to ∷ key_from k ∷ key_to k ∷ parent ∷ children ∷ past ∷ []

abbrev mutual
  -- the rows of the value t with key k, whose number is n and whose parent's word is u
  pub rows_of : Tree → Key → (u n : ℕ) → Words
  rows_of (string o to q) k u n = row string_kind (suc o) to k u 0 (suc n)
  rows_of (container c o from to q ts) k u n = row (kind_number c) from to k u (count ts) (suc n + nodes_all ts) ++ rows_all ts (suc n) (suc n)

  -- the rows of children whose first has number n
  pub rows_all : Trees → (u n : ℕ) → Words
  rows_all ∅ u n = []
  rows_all (ts ▸ k ∶ t) u n = rows_all ts u n ++ rows_of t k u (n + nodes_all ts)

-- “Nodes are numbered from 0, in the order of their openers.”
abbrev pub rows : Tree → Words
rows t = rows_of t unkeyed 0 0

-- word i of the row of node n, read back
abbrev pub word : Words → (n i : ℕ) → ℕ
word ws n i = get_or ws (row_words * n + i) 0

-- a row's eight words by name
pub record Row : Type 0 where
  pub kind : ℕ
  pub from : ℕ
  pub to : ℕ
  pub keyfrom : ℕ
  pub keyto : ℕ
  pub parent : ℕ
  pub children : ℕ
  pub past : ℕ

abbrev pub words_at : Words → ℕ → Row
words_at ws n =
    record {
      kind = word ws n 0;
      from = word ws n 1;
      to = word ws n 2;
      keyfrom = word ws n 3;
      keyto = word ws n 4;
      parent = word ws n 5;
      children = word ws n 6;
      past = word ws n 7;
    }

-- the row of node n, all 0 where the table has no such whole row
abbrev pub row_at : Words → ℕ → Row
row_at ws n = cond (leb (row_words * suc n) (length ws)) (words_at ws n) (words_at [] 0)

-- “The first 2,048 words of the table count, which is room for 256 rows.”
abbrev pub node_words : ℕ
node_words = row_words * max_nodes

-- what a read leaves of a lent table
pub data Left : Type 0 where
  untouched cleared filled : Left

-- “An accepted text leaves the rows of its tree in the node table and the spans of its policy's strings in the span table.” “Refusal 1 leaves both tables as
-- they were lent, even where only one is too short.” “Refusals 2 to 6 leave zeros in both tables.” “Refusals 7 to 16 leave the rows of the tree in the node
-- table and zeros in the span table.” Any other refusal clears
abbrev pub nodes_left : ℕ → Left
nodes_left refusal = cond (eqb refusal 0) filled (cond (eqb refusal 1) untouched (cond (leb 7 refusal) (cond (leb refusal 16) filled cleared) cleared))

-- a lent table of which n words count, filled with ws. “Where rows or spans are left, the other words that count are 0. No word after those that count is
-- touched.”
abbrev pub hold : Left → ℕ → Words → Words → Words
hold untouched n ws lent = lent
hold cleared n ws lent = replicate n 0 ++ drop n lent
hold filled n ws lent = ws ++ (replicate (n - length ws) 0 ++ drop n lent)

-- the same for reading over a table. “Where they leave rows or spans, all other words stay as they were lent. Zeros are left as above.”
abbrev pub hold_over : Left → ℕ → Words → Words → Words
hold_over untouched n ws lent = lent
hold_over cleared n ws lent = replicate n 0 ++ drop n lent
hold_over filled n ws lent = ws ++ drop (length ws) lent
