-- The grammar, declared: which bytes are a value, and the tree they stand for. Texts are put together by concatenation, a constructor for each rule; no
-- algorithm. S is the set of string bytes. Assumes nothing.
use Rattle.std.specs.Prelude.{◌≡◌, ℕ, suc, ◌+◌, ◌≤◌, ◌<◌, Bool, [], ◌∷◌, length, take}
use Rattle.cel_text.specs.Byte.{Text, ◌⧺◌, Run, Blanks, Identifier, quote, comma, colon}
use Rattle.cel_text.specs.Tree.{Kind, array, object, function, opener, closer, Key, unkeyed, key, Tree, string, container, Trees, ∅, ◌▸◌∶◌}

-- “name = blanks, { identifier byte }, blanks ;” from place p on, and the identifier's ends. “Where it is empty, all the blanks count as standing before it.”
pub data Named (p : ℕ) : Text → ℕ → ℕ → Type 0 where
  nameless : {b : Text} → Blanks b → Named p b (p + length b) (p + length b)
  with_name : {b : Text} {i : ℕ} {is : Text} {c : Text} → Blanks b → Identifier (i ∷ is) → Blanks c
      → Named p (b ⧺ (i ∷ is) ⧺ c) (p + length b) (p + length b + length (i ∷ is))

-- what stands before a container's opener, and the ends that its row has: blanks before an array's, a name before the others
pub data Head : Kind → ℕ → Text → ℕ → ℕ → Type 0 where
  array_head : {p : ℕ} {b : Text} → Blanks b → Head array p b 0 0
  object_head : {p : ℕ} {h : Text} {from to : ℕ} → Named p h from to → Head object p h from to
  function_head : {p : ℕ} {h : Text} {from to : ℕ} → Named p h from to → Head function p h from to

-- what stands before a child's value. “The children of an array or a function are values; those of an object are entries, each a key and a value.” “entry =
-- name, ":", value ;”
pub data Label : Kind → ℕ → Text → Key → Type 0 where
  in_array : {p : ℕ} → Label array p [] unkeyed
  in_function : {p : ℕ} → Label function p [] unkeyed
  in_object : {p : ℕ} {l : Text} {from to : ℕ} → Named p l from to → Label object p (l ⧺ colon ∷ []) (key from to)

-- what stands before a child. “A child is separated from the one before it by a comma.”
pub data Separator : Trees → Text → Type 0 where
  first : Separator ∅ []
  next : {ts : Trees} {k : Key} {t : Tree} {b : Text} → Blanks b → Separator (ts ▸ k ∶ t) (b ⧺ comma ∷ [])

module _ (S : ℕ → Bool) where
  mutual
    -- `Value S p v t`: the bytes v, which stand at place p, are one whole value, and it is t
    pub data Value : ℕ → Text → Tree → Type 0 where
      -- “string = blanks, '"', { string byte }, blanks, '"' ;”
      a_string : {p : ℕ} {b i c : Text} → Blanks b → Run S i → Blanks c
          → Value p (b ⧺ (quote ∷ i) ⧺ c ⧺ quote ∷ []) (string (p + length b) (suc (p + length b) + length i) (suc (suc (p + length b) + length i + length c)))
      -- what stands before the opener, the children, blanks and the closer: “array = blanks, "[", [ value, { blanks, ",", value } ], blanks, "]" ;” “object =
      -- name, "{", [ entry, { blanks, ",", entry } ], blanks, "}" ;” “function = name, "(", [ value, { blanks, ",", value } ], blanks, ")" ;”
      a_container : {p : ℕ} {c : Kind} {h v b : Text} {from to : ℕ} {ts : Trees} → Head c p h from to → Children c (suc (p + length h)) v ts → Blanks b
          → Value p (h ⧺ (opener c ∷ v) ⧺ b ⧺ closer c ∷ []) (container c (p + length h) from to (suc (suc (p + length h) + length v + length b)) ts)

    -- `Children S c p v ts`: the bytes v, which stand at place p, are the children of a container of kind c. “A container may be empty, and no comma stands
    -- before its closer.”
    pub data Children : Kind → ℕ → Text → Trees → Type 0 where
      no_child : {c : Kind} {p : ℕ} → Children c p [] ∅
      one_more : {c : Kind} {p : ℕ} {vs s l v : Text} {ts : Trees} {k : Key} {t : Tree}
          → Children c p vs ts → Separator ts s → Label c (p + length vs + length s) l k → Value (p + length vs + length s + length l) v t
          → Children c p (vs ⧺ s ⧺ l ⧺ v) (ts ▸ k ∶ t)

  -- “A text is legal when it begins with a value. What stands after that value is no part of the tree.”
  pub record Legal (x : Text) : Type 0 where
    pub value : Text
    pub rest : Text
    pub tree : Tree
    pub split : x ≡ value ⧺ rest
    pub reads : Value 0 value tree

  -- “A beginning of a text is viable when some bytes, or none, put after it make it legal, whatever the limits say.”
  pub record Viable (x : Text) : Type 0 where
    pub further : Text
    pub legal : Legal (x ⧺ further)

  -- “The syntax place is the length of the longest viable beginning of the text.”
  pub record Longest (x : Text) (j : ℕ) : Type 0 where
    pub within : j ≤ length x
    pub viable : Viable (take j x)
    pub longest : (i : ℕ) → j < i → i ≤ length x → Viable (take i x) → ⊥

  -- Q holds of the tree of every legal text that begins with x
  abbrev pub Always : (Tree → Type 0) → Text → Type 0
  Always Q x = (w : Text) (l : Legal (x ⧺ w)) → Q l.tree
