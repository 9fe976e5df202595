-- The answers of the steps, taken apart: a refusal is handed up as it is, and what was read goes into what its caller reads. Assumes nothing.
use Rattle.std.proofs.Common.{◌≡◌, ℕ, suc, ◌*◌, ◌≤◌, Result, Ok, Err, [], ◌∷◌, sym, ◌∙◌, subst}
use lib.Seq.{sets}
use Rattle.cel_text.specs.Byte.{Text, blank}
use Rattle.cel_text.specs.Tree.{Kind as Told}
use Rattle.cel_text.specs.Reading.{begun, fresh}
use Rattle.cel_text.specs.Table.{Words, kind_number, row_words}
use Rattle.parser.specs.declared.Read.{Read}
use Rattle.parser.specs.declared.Refused.{Refused}
use Rattle.parser.specs.declared.value.Kind.{Kind}
use Rattle.parser.specs.declared.value.Opener.{Opener}
use Rattle.parser.specs.declared.value.Opener.TheVariants.{Quote, Container}
use Rattle.parser.specs.declared.value.Slot.{Slot}
use Rattle.parser.specs.Run.{end_of}
use Rattle.parser.specs.Faults.{number_of}
use Rattle.parser.specs.Kinds.{kind_told}
use Rattle.parser.specs.Steps.{RefusedBy, Headed, Entered, Valued, StringRead, Keyed, WholeChild, ChildRead, Listed}
use Rattle.parser.proofs.Runs.{end-stop}
use Rattle.parser.proofs.Machine.{over-begun, not-blank}
use Rattle.parser.proofs.Values.{sized-from, whole_from, refused-from, at-string, at-container, value-later, value-list}
use Rattle.parser.proofs.Lists.{whole-child, refused-child, Due-child, child-refused}

module _ (s : Slot) {x : Text} {opener : Opener} {from to o : ℕ} (h : Headed x s.key.due.0 opener from to o) (left : ℕ) {q : ℕ} (e : Entered opener o s.node.0 left q) where
  pub string-up : (w w' : Words) → opener ≡ Quote → (r : Result Read Refused) → StringRead x w w' q s r → Valued x w w' s left r
  string-up w w' k (Ok r) v = whole_from (at-string h s.node.0 left e k) (value-later h s.node.0 left e) (v o left e.next)
  string-up w w' k (Err r) v = refused-from (at-string h s.node.0 left e k) (v o left)

  pub list_up : (w w₁ w₂ : Words) (left' : ℕ) (kind : Kind) → opener ≡ Container kind → left ≡ suc left'
      → w₁ ≡ sets w (row_words * s.node.0) (kind_number (kind_told kind) ∷ from ∷ to ∷ s.key.from.0 ∷ s.key.to.0 ∷ s.parent.0 ∷ [])
      → (r : Result Read Refused) → Listed x w₁ w₂ q s.node.0 (kind_told kind) left' r → Valued x w w₂ s left r
  list_up w w₁ w₂ left' kind k hl hw (Ok r) v = value-list h s.node.0 left e kind k hl hw v
  list_up w w₁ w₂ left' kind k hl hw (Err r) v =
      refused-from (at-container h s.node.0 left e kind k)
      (subst (λ (l : ℕ). RefusedBy (λ K. begun K (fresh (kind_told kind) o from to)) x q s.node.0 l (number_of r.fault) r.place.0) (sym hl) (v o from to))

-- a list that is read from the end of the blanks is read from their start
pub list-from : (x : Text) (w w' : Words) (at p n : ℕ) (c : Told) (left : ℕ) → p ≡ end_of blank x at → at ≤ p → (r : Result Read Refused) → Listed x w w' p n c left r → Listed x w w' at n c left r
list-from x w w' at p n c left e h (Ok r) v =
    record {
      children = v.children;
      reading = λ K o from to a. over-begun K (fresh c o from to) x at p e ∙ v.reading K o from to a;
      rows = v.rows;
      sized = λ o from to q. sized-from h (v.sized o from to q);
    }
list-from x w w' at p n c left e h (Err r) v = λ o from to. refused-from (λ K a. over-begun K (fresh c o from to) x at p e) (v o from to)

-- the end of a run of blanks is the end of the run from there
pub end-again : (x : Text) (at p : ℕ) → p ≡ end_of blank x at → p ≡ end_of blank x p
end-again x at p e = sym (end-stop blank x p (not-blank x at p e))

-- a value, with the key before it
pub child-by : (s : Slot) {x : Text} {c : Told} {p : ℕ} → Keyed x c p s.key → (w w' : Words) (left : ℕ) (r : Result Read Refused)
    → Valued x w w' s left r → ChildRead c x w w' p s.node.0 left s.parent.0 r
child-by s l w w' left (Ok r) v = whole-child l s.node.0 left v
child-by s l w w' left (Err r) v = refused-child l s.node.0 left v

module _ {x : Text} {w w' : Words} {p₀ n : ℕ} {c : Told} {left p m i d : ℕ} (s : Due-child x w w' p₀ n c left p m i d) (w₁ : Words) (u : ℕ) where
  pub child-up : (w₂ : Words) {e : Refused} {a : Result Read Refused} → a ≡ Err e → ChildRead c x w' w₁ p m left u a → Listed x w w₂ p₀ n c left a
  child-up w₂ h v =
      subst (λ (a : Result Read Refused). Listed x w w₂ p₀ n c left a) (sym h)
      (child-refused s (subst (λ (a : Result Read Refused). ChildRead c x w' w₁ p m left u a) h v))

  pub whole_by : {r : Read} {a : Result Read Refused} → a ≡ Ok r → ChildRead c x w' w₁ p m left u a → WholeChild c x w' w₁ p m left u r
  whole_by h v = subst (λ (a : Result Read Refused). ChildRead c x w' w₁ p m left u a) h v
