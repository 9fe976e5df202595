-- The node table and the text, as the mapping looks at them: the node with a given number, read back from its row and its children's rows.
-- Assumes nothing.
use Rattle.std.specs.Prelude.{◌≡◌, refl, ℕ, zero, suc, ◌+◌, ◌-◌, ◌*◌, ◌≤◌, ◌<◌, cond, List, [], ◌∷◌, length, eqb, ltb}
use Rattle.std.proofs.Common.{ap}
use Rattle.std.specs.Coded.{×_prop, Unit-prop, le_prop, Coded, Coded-set, code_by, coded_ℕ, coded_list, coded×}
use Rattle.std.proofs.Math.Seq.{slice}
use Rattle.cel_text.specs.Byte.{Text}
use Rattle.cel_text.specs.Reading.{max_nodes}
use Rattle.cel_text.specs.Table.{Words, row_words, word, string_kind, kind_number}
use Rattle.cel_policy.specs.Policy.{Span}
use Rattle.cel_policy.specs.Mapping.{Node, leaf, branch, Nodes, childless, ◌▹◌∶◌, Typed}
use Rattle.parser.specs.Kinds.{kind_of}
use Rattle.parser.specs.declared.row.Row.{Row}
use Rattle.cel_policy.specs.Sizes.{size, sizes}

-- a string's content, as its row has it
abbrev pub span_of : Words → ℕ → Span
span_of w n = record { from = word w n 1; to = word w n 2 }

abbrev coded_span : Coded Span
coded_span = code_by (ℕ × ℕ) (coded× coded_ℕ coded_ℕ) (λ s. (s.from, s.to)) (λ p. record { from = p.0; to = p.1 }) (λ s. refl)

-- the contents of m strings, of which the first has number n
abbrev pub spans_from : Words → (n m : ℕ) → List Span
spans_from w n zero = []
spans_from w n (suc m) = span_of w n ∷ spans_from w (suc n) m

-- the contents of an array's elements, where all of them are strings
abbrev pub strings_of : Words → ℕ → List Span
strings_of w n = spans_from w (suc n) (word w n 7 - suc n)

-- at most f steps are made, a step for each node and for each child
abbrev mutual
  pub node_from : (f : ℕ) → Words → Text → (n : ℕ) → Node Span
  node_from zero w x n = leaf n (span_of w n)
  node_from (suc f) w x n =
      cond (eqb (word w n 0) string_kind)
      (leaf n (span_of w n))
      (branch n (kind_of (word w n 0)) (slice (word w n 1) (word w n 2) x) (nodes_from f w x (suc n) (word w n 7) childless))

  -- the children `before`, and those from number n on, up to number `end`
  pub nodes_from : (f : ℕ) → Words → Text → (n end : ℕ) → Nodes Span → Nodes Span
  nodes_from zero w x n end before = before
  nodes_from (suc f) w x n end before =
      cond (ltb n end) (nodes_from f w x (word w n 7) end (before ▹ slice (word w n 3) (word w n 4) x ∶ node_from f w x n)) before

-- two steps for each node are enough
unfoldable pub node_at : Words → Text → ℕ → Node Span
node_at w x n = node_from (2 * max_nodes) w x n

abbrev pub number : Node Span → ℕ
number (leaf n a) = n
number (branch n c name ns) = n

abbrev pub children : Node Span → Nodes Span
children (leaf n a) = childless
children (branch n c name ns) = ns

-- the words of the row of node n, as they were read
pub record RowRead (w : Words) (n : ℕ) (r : Row) : Type 0 where
  pub kind : r.kind ≡ word w n 0
  pub from : r.from.0 ≡ word w n 1
  pub to : r.to.0 ≡ word w n 2
  pub keyfrom : r.keyfrom.0 ≡ word w n 3
  pub keyto : r.keyto.0 ≡ word w n 4
  pub past : r.past.0 ≡ word w n 7

-- the row of node n: its kind, the first node after its subtree, and that the subtree's rows are in the table
pub record RowIs (w : Words) (n k end : ℕ) : Type 0 where
  pub kind : word w n 0 ≡ k
  pub past : word w n 7 ≡ end
  pub within : row_words * end ≤ length w
  deriving IsProp as RowIs-fields

-- the ends of these bytes of the text
pub record Part (x : Text) (from to : ℕ) (bytes : Text) : Type 0 where
  pub ordered : from ≤ to
  pub inside : to ≤ length x
  pub is : slice from to x ≡ bytes
  deriving IsProp as Part-fields

-- the table has the rows of a node, and its names and keys lie in the text
abbrev mutual
  pub Stands : Node Span → Words → Text → Type 0
  Stands (leaf n a) w x = RowIs w n string_kind (suc n) × (a ≡ span_of w n)
  Stands (branch n c name ns) w x = RowIs w n (kind_number c) (suc n + sizes ns) × Part x (word w n 1) (word w n 2) name × StandAll ns w x (suc n)

  -- children of which the first has number n
  pub StandAll : Nodes Span → Words → Text → ℕ → Type 0
  StandAll childless w x n = Unit {0}
  StandAll (ns ▹ k ∶ m) w x n =
      StandAll ns w x n × (number m ≡ n + sizes ns) × Part x (word w (number m) 3) (word w (number m) 4) k × Stands m w x

-- the table has the rows of the node that is read back at number n
pub record Held (w : Words) (x : Text) (n : ℕ) : Type 0 where
  pub numbered : number (node_at w x n) ≡ n
  pub small : n + size (node_at w x n) ≤ max_nodes
  pub stands : Stands (node_at w x n) w x
  deriving IsProp as Held-fields

-- ---- a node is held in one way, so that a struct's ghost field may say it

module _ {A B C D : Type 0} (a : IsProp A) (b : IsProp B) (c : IsProp C) (d : IsProp D) where
  four_prop : IsProp (A × B × C × D)
  four_prop x y =
      ap (λ (t : A × (B × (C × D))). (t.0, t.1.0, t.1.1.0, t.1.1.1)) (×_prop a (×_prop b (×_prop c d)) (x.0, (x.1, (x.2, x.3))) (y.0, (y.1, (y.2, y.3))))

triple_prop : {A B C : Type 0} → IsProp A → IsProp B → IsProp C → IsProp (A × B × C)
triple_prop {A} {B} {C} a b c x y = ap (λ (t : A × (B × C)). (t.0, t.1.0, t.1.1)) (×_prop a (×_prop b c) (x.0, (x.1, x.2)) (y.0, (y.1, y.2)))

module _ (w : Words) (x : Text) where
  RowIs-prop : (n k end : ℕ) → IsProp (RowIs w n k end)
  RowIs-prop n k end = RowIs-fields (Coded-set coded_ℕ (word w n 0) k) (Coded-set coded_ℕ (word w n 7) end) le_prop

  Part-prop : (from to : ℕ) (bytes : Text) → IsProp (Part x from to bytes)
  Part-prop from to bytes = Part-fields le_prop le_prop (Coded-set (coded_list coded_ℕ) (slice from to x) bytes)

  mutual
    Stands-prop : (m : Node Span) → IsProp (Stands m w x)
    Stands-prop (leaf n a) = ×_prop (RowIs-prop n string_kind (suc n)) (Coded-set coded_span a (span_of w n))
    Stands-prop (branch n c name ns) = triple_prop (RowIs-prop n (kind_number c) (suc n + sizes ns)) (Part-prop (word w n 1) (word w n 2) name) (StandAll-prop ns (suc n))

    StandAll-prop : (ns : Nodes Span) (n : ℕ) → IsProp (StandAll ns w x n)
    StandAll-prop childless n = Unit-prop
    StandAll-prop (ns ▹ k ∶ m) n =
        four_prop (StandAll-prop ns n) (Coded-set coded_ℕ (number m) (n + sizes ns)) (Part-prop (word w (number m) 3) (word w (number m) 4) k) (Stands-prop m)

  pub Held-prop : (n : ℕ) → IsProp (Held w x n)
  Held-prop n = Held-fields (Coded-set coded_ℕ (number (node_at w x n)) n) le_prop (Stands-prop (node_at w x n))

-- a node's row, and those of its subtree, are in the table
pub record Tabled (w : Words) (n : ℕ) : Type 0 where
  pub begun : n < word w n 7
  pub few : word w n 7 ≤ max_nodes
  pub ended : row_words * word w n 7 ≤ length w

-- the node as an object or a function whose kind and name were found as expected
abbrev pub typed_at : Words → Text → ℕ → Typed Span
typed_at w x n = record { number = n; children = children (node_at w x n) }
