-- Trees with places, and their sizes. “A place is the number of bytes that stand before it, so the first byte is at place 0.” Assumes nothing.
use Rattle.std.specs.Prelude.{◌≡◌, ℕ, suc, ◌+◌, max, List, [], ◌∷◌, ◌++◌}
use Rattle.std.proofs.Math.Option.{some}
use Rattle.std.proofs.Math.ListN.{get_elem?}

-- “Arrays, objects and functions are containers.”
pub data Kind : Type 0 where
  array object function : Kind

-- “The opener of an object is `{`, of a function `(`, of an array `[`, and of a string its first `"`.”
abbrev pub opener : Kind → ℕ
opener array = 91
opener object = 123
opener function = 40

-- “The closers are `}`, `)`, `]` and the second `"`.”
abbrev pub closer : Kind → ℕ
closer array = 93
closer object = 125
closer function = 41

-- the key of an entry, from its first place to the place after its last; a value that is no entry has none
pub data Key : Type 0 where
  unkeyed : Key
  key : (from to : ℕ) → Key

infixl 60 ◌▸◌∶◌
mutual
  -- a string: its opener's place, the place after its content, the place after its closer. Its content begins after the opener.
  -- a container: its kind, its opener's place, the ends of its name (an array's are 0, 0), the place after its closer, and its children
  pub data Tree : Type 0 where
    string : (o to q : ℕ) → Tree
    container : Kind → (o from to q : ℕ) → Trees → Tree

  -- children in text order, each with its key, the last at hand
  pub data Trees : Type 0 where
    ∅ : Trees
    ◌▸◌∶◌ : Trees → Key → Tree → Trees

abbrev mutual
  -- “Each value is a node.”
  pub nodes : Tree → ℕ
  nodes (string o to q) = 1
  nodes (container c o from to q ts) = suc (nodes_all ts)

  pub nodes_all : Trees → ℕ
  nodes_all ∅ = 0
  nodes_all (ts ▸ k ∶ t) = nodes_all ts + nodes t

abbrev mutual
  -- “The depth of a string is 0, that of a container without children 1, and that of any other container 1 more than the greatest depth of its children.”
  pub depth : Tree → ℕ
  depth (string o to q) = 0
  depth (container c o from to q ts) = suc (depth_all ts)

  pub depth_all : Trees → ℕ
  depth_all ∅ = 0
  depth_all (ts ▸ k ∶ t) = max (depth_all ts) (depth t)

-- “how many children it has”
abbrev pub count : Trees → ℕ
count ∅ = 0
count (ts ▸ k ∶ t) = suc (count ts)

-- where a node opens and, of a container, at which depth; 0 for a string. “A container that opens inside d others opens at depth d + 1.”
pub record Opening : Type 0 where
  pub place : ℕ
  pub depth : ℕ

abbrev mutual
  -- “Nodes are numbered from 0, in the order of their openers.” The openings of a value at depth d, in that order
  pub openings : ℕ → Tree → List Opening
  openings d (string o to q) = record { place = o; depth = 0 } ∷ []
  openings d (container c o from to q ts) = record { place = o; depth = d } ∷ openings_all (suc d) ts

  pub openings_all : ℕ → Trees → List Opening
  openings_all d ∅ = []
  openings_all d (ts ▸ k ∶ t) = openings_all d ts ++ openings d t

-- the node with number n of the text's value t opens at place j, and it is a container at depth d, or a string and d is 0
abbrev pub OpensAs : Tree → (n j d : ℕ) → Type 0
OpensAs t n j d = get_elem? (openings 1 t) n ≡ some (record { place = j; depth = d })
