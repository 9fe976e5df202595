-- The answer of reading a tree, for every text and every table length, in the numbers of SPEC.md. S is the set of string bytes. Assumes nothing.
use Rattle.std.specs.Prelude.{ℕ, Bool, cond, [], length, ltb}
use Rattle.cel_text.specs.Byte.{Text, ascii, lead, string_byte}
use Rattle.cel_text.specs.Tree.{Tree, nodes, depth}
use Rattle.cel_text.specs.Reading.{Fault, syntax, too_deep, too_many, Outcome, accepted, refused, read, limits}
use Rattle.cel_text.specs.Table.{Words, Left, rows, node_words, nodes_left, hold, hold_over}

-- the longest text: 2 is given where “the text has more than 8,192 bytes”
abbrev pub max_text : ℕ
max_text = 8192

-- “An answer begins with four numbers: refusal, name, kind and place.” “After them, reading answers the nodes and the depth of the tree, or 0 and 0 for
-- refusals 1 to 6.”
pub record Answer : Type 0 where
  pub refusal : ℕ
  pub name : ℕ
  pub kind : ℕ
  pub place : ℕ
  pub nodes : ℕ
  pub depth : ℕ

-- 4 is “syntax”, 5 that “a container opens at depth 33”, 6 that “a node opens after 256 others”
abbrev pub fault_number : Fault → ℕ
fault_number syntax = 4
fault_number too_deep = 5
fault_number too_many = 6

-- a tree and the place after it, or a refusal of 1 to 6 and its place
pub data Found : Type 0 where
  tree : Tree → ℕ → Found
  fault : (refusal place : ℕ) → Found

abbrev pub found : Outcome → Found
found (accepted t q) = tree t q
found (refused f p) = fault (fault_number f) p

-- “Refusal 1 is judged first, then 2, then 3. Only then is the text read, from its first byte on. Of 4, 5 and 6 the one with the lowest place is given.” w is
-- the lent table's length
abbrev pub find_tree : (ℕ → Bool) → (w : ℕ) → Text → Found
find_tree S w x =
    cond (ltb w node_words) (fault 1 0)
    (cond (ltb max_text (length x)) (fault 2 max_text)
    (cond (ltb (lead ascii x) (length x)) (fault 3 (lead ascii x))
    (found (read S limits x))))

-- an answer about the tree t, with its nodes and its depth
abbrev pub about : Tree → (refusal name kind place : ℕ) → Answer
about t refusal name kind place = record { refusal = refusal; name = name; kind = kind; place = place; nodes = nodes t; depth = depth t }

-- a refusal without a tree. “Refusal 0 is acceptance, and a number that a refusal has no use for is 0.”
abbrev pub refused_at : (refusal place : ℕ) → Answer
refused_at refusal place = record { refusal = refusal; name = 0; kind = 0; place = place; nodes = 0; depth = 0 }

abbrev pub answered : Found → Answer
answered (tree t q) = about t 0 0 0 0
answered (fault r p) = refused_at r p

-- what the lent node table holds afterwards, where `holding` says how
abbrev pub nodes_after : (holding : Left → ℕ → Words → Words → Words) → Found → Words → Words
nodes_after holding (tree t q) lent = holding (nodes_left 0) node_words (rows t) lent
nodes_after holding (fault r p) lent = holding (nodes_left r) node_words [] lent

-- reading a tree: the answer, and the node table afterwards
unfoldable pub tree_answer : (w : ℕ) → Text → Answer
tree_answer w x = answered (find_tree string_byte w x)

unfoldable pub tree_table : Text → Words → Words
tree_table x lent = nodes_after hold (find_tree string_byte (length lent) x) lent

-- reading over a table: the answer is the same, and the words after a tree's rows stay as lent
unfoldable pub tree_over : Text → Words → Words
tree_over x lent = nodes_after hold_over (find_tree string_byte (length lent) x) lent
