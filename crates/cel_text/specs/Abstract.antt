-- A tree without places: what a value is, wherever it stands and whatever blanks are in it. Its text without blanks, which is its shortest; how many
-- nodes it has and how deep it is; and which of these trees may be written. S is the set of string bytes. Assumes nothing.
use Rattle.std.specs.Prelude.{◌≡◌, ℕ, suc, ◌+◌, max, Bool, [], ◌∷◌, ◌++◌}
use Rattle.cel_text.specs.Byte.{Text, Run, Identifier, quote, comma, colon}
use Rattle.cel_text.specs.Tree.{Kind, array, object, function, opener, closer}

-- a string with its content; a container with its kind, its name (an array's is empty) and its children, each with its key (empty where it is no entry),
-- the last at hand
infixl 60 ◌▪◌∶◌
mutual
  pub data Ast : Type 0 where
    str : Text → Ast
    con : Kind → (name : Text) → Asts → Ast

  pub data Asts : Type 0 where
    ε : Asts
    ◌▪◌∶◌ : Asts → (key : Text) → Ast → Asts

-- what is written before a child's value. “The children of an array or a function are values; those of an object are entries, each a key and a value.”
abbrev pub label : Kind → (key : Text) → Text
label array k = []
label object k = k ++ colon ∷ []
label function k = []

-- “A child is separated from the one before it by a comma.”
abbrev pub separator : Asts → Text
separator ε = []
separator (more ▪ k ∶ a) = comma ∷ []

abbrev mutual
  -- the text, with no blanks
  pub write : Ast → Text
  write (str i) = quote ∷ (i ++ quote ∷ [])
  write (con c name more) = name ++ opener c ∷ (write_all more c ++ closer c ∷ [])

  pub write_all : Asts → Kind → Text
  write_all ε c = []
  write_all (more ▪ k ∶ a) c = write_all more c ++ (separator more ++ (label c k ++ write a))

abbrev mutual
  -- how many nodes it has. “Each value is a node.”
  pub size_of : Ast → ℕ
  size_of (str i) = 1
  size_of (con c name more) = suc (size_all more)

  pub size_all : Asts → ℕ
  size_all ε = 0
  size_all (more ▪ k ∶ a) = size_all more + size_of a

abbrev mutual
  -- how deep it is. “The depth of a string is 0, that of a container without children 1, and that of any other container 1 more than the greatest depth of its
  -- children.”
  pub height_of : Ast → ℕ
  height_of (str i) = 0
  height_of (con c name more) = suc (height_all more)

  pub height_all : Asts → ℕ
  height_all ε = 0
  height_all (more ▪ k ∶ a) = max (height_all more) (height_of a)

-- “how many children it has”
abbrev pub count_of : Asts → ℕ
count_of ε = 0
count_of (more ▪ k ∶ a) = suc (count_of more)

-- what a name and a key may be. “An identifier is a run of identifier bytes, and may be empty.”
abbrev pub GoodName : Kind → Text → Type 0
GoodName array name = name ≡ []
GoodName object name = Identifier name
GoodName function name = Identifier name

abbrev pub GoodKey : Kind → Text → Type 0
GoodKey array k = k ≡ []
GoodKey object k = Identifier k
GoodKey function k = k ≡ []

module _ (S : ℕ → Bool) where
  abbrev mutual
    -- what may be written: names and keys are identifiers. “A string's content is its run of string bytes.”
    pub Writable : Ast → Type 0
    Writable (str i) = Run S i
    Writable (con c name more) = GoodName c name × WritableAll more c

    pub WritableAll : Asts → Kind → Type 0
    WritableAll ε c = Unit {0}
    WritableAll (more ▪ k ∶ a) c = WritableAll more c × GoodKey c k × Writable a
