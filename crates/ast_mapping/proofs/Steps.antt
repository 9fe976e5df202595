-- What the steps of the mapping come to in the definitions, where their parts have answered. Assumes nothing.
use mathlib.Core.Path.{◌≡◌, refl, sym, subst, ◌∙◌}
use Prim.Native.Nat.{ℕ, ◌≤◌, ◌<◌}
use native.Mathlib.Omega.{arith}
use mathlib.Core.Bool.{Bool, true, false, cond}
use lib.ListN.{length}
use lib.Seq.{slice}
use borrow.Author.Tests.{ne_eqb, eq-eqb, eqb-false}
use Rattle.std.specs.Prelude.{Ok, Err}
use Rattle.cel_text.specs.Byte.{Text}
use Rattle.cel_text.specs.Tree.{Kind}
use Rattle.cel_text.specs.Reading.{max_nodes}
use Rattle.cel_text.specs.Table.{Words, kind_number, string_kind, word}
use Rattle.cel_policy.specs.Names.{same, spelling}
use Rattle.cel_policy.specs.Policy.{Span}
use Rattle.cel_policy.specs.Mapping.{Node, leaf, branch, Mapped, good, Typed, unexpected_type, unexpected_name, typed}
use Rattle.parser.specs.declared.row.Row.{Row}
use Rattle.ast_mapping.specs.View.{RowRead, node_at, number, children, typed_at, Stands, Held}
use Rattle.ast_mapping.specs.declared.tree.TreeNode.{TreeNode}
use Rattle.ast_mapping.specs.declared.mapping.Refusal.{Refusal as Told}
use Rattle.ast_mapping.specs.Steps.{node_of, typed_of, expected_kind, refusal_told, fields_used, Checked}
use Rattle.ast_mapping.proofs.View.{no-string, few}
use Rattle.ast_mapping.proofs.Parts.{refuses}

-- ---- kind, then name

-- a node of the right kind: its name lies in the text and decides
pub record NameAt (w : Words) (x : Text) (n : ℕ) (name : ℕ) (o : Typed Span) (m : Mapped (Typed Span)) : Type 0 where
  pub ordered : word w n 1 ≤ word w n 2
  pub inside : word w n 2 ≤ length x
  pub decides : cond (same (slice (word w n 1) (word w n 2) x) (spelling name)) (good o) (unexpected_name name n) ≡ m

module _ (w : Words) (x : Text) (c : Kind) (name : ℕ) where
  other-kind : (m : Node Span) → Stands m w x → (word w (number m) 0 ≡ kind_number c → ⊥) → unexpected_type name (kind_number c) (number m) ≡ typed c name m
  unfolding typed
  other-kind (leaf n a) h k = refl
  other-kind (branch n d bytes ns) h k = rw (ne_eqb (kind_number d) (kind_number c) (λ e. k (h.0.kind ∙ e)))

  same_kind : (m : Node Span) → Stands m w x → word w (number m) 0 ≡ kind_number c
      → NameAt w x (number m) name (record { number = number m; children = children m }) (typed c name m)
  unfolding typed
  same_kind (leaf n a) h k = absurd (eqb-false (kind_number c) string_kind (no-string c) (sym k ∙ h.0.kind))
  same_kind (branch n d bytes ns) h k =
      record {
        ordered = h.1.ordered;
        inside = h.1.inside;
        decides = rw (eq-eqb (kind_number d) (kind_number c) (sym h.0.kind ∙ k), h.1.is);
      }

  module _ (n : ℕ) (h : Held w x n) where
    wrong : (word w n 0 ≡ kind_number c → ⊥) → unexpected_type name (kind_number c) n ≡ typed c name (node_at w x n)
    wrong =
        subst (λ (i : ℕ). (word w i 0 ≡ kind_number c → ⊥) → unexpected_type name (kind_number c) i ≡ typed c name (node_at w x n)) h.numbered
        (other-kind (node_at w x n) h.stands)

    right : word w n 0 ≡ kind_number c → NameAt w x n name (typed_at w x n) (typed c name (node_at w x n))
    right =
        subst
        (λ (i : ℕ). word w i 0 ≡ kind_number c → NameAt w x i name (record { number = i; children = children (node_at w x n) }) (typed c name (node_at w x n)))
        h.numbered (same_kind (node_at w x n) h.stands)

-- ---- a node that is validated, whose row was read

module _ (e : TreeNode) (name : ℕ) {row : Row} (k : RowRead e.table.now e.number.0 row) {kind : ℕ} (i : kind ≡ kind_number (expected_kind name)) where
  small : e.number.0 < max_nodes
  small = few e.table.now e.text.now e.number.0 e.held

  pub wrong-kind : {r : Told} → (row.kind ≡ kind → ⊥) → refusal_told r ≡ fields_used 7 name e.number.0 → Checked e name (Err r)
  wrong-kind h t = refuses t (wrong e.table.now e.text.now (expected_kind name) name e.number.0 e.held (λ f. h (k.kind ∙ f ∙ sym i))) small

  module _ (h : row.kind ≡ kind) where
    named : NameAt e.table.now e.text.now e.number.0 name (typed_of e) (typed (expected_kind name) name (node_of e))
    named = right e.table.now e.text.now (expected_kind name) name e.number.0 e.held (sym k.kind ∙ h ∙ i)

    pub name-inside : (row.from.0 ≤ row.to.0) × (row.to.0 ≤ length e.text.now)
    name-inside = (omega (arith, k.from, k.to, named.ordered), omega (arith, k.to, named.inside))

    module _ {b : Bool} {part : Text} (is : b ≡ same part (spelling name)) (q : part ≡ slice row.from.0 row.to.0 e.text.now) where
      decides : cond b (good (typed_of e)) (unexpected_name name e.number.0) ≡ typed (expected_kind name) name (node_of e)
      decides =
          let name-at : part ≡ slice (word e.table.now e.number.0 1) (word e.table.now e.number.0 2) e.text.now = q ∙ rw (k.from, k.to) in
          rw (is, name-at) named.decides

      pub wrong-name : {r : Told} → b ≡ false → refusal_told r ≡ fields_used 8 name e.number.0 → Checked e name (Err r)
      wrong-name f t = refuses t (rw f at decides) small

      pub right-name : b ≡ true → Checked e name (Ok tt)
      right-name t = record { is = rw t at decides; inside = tt }
