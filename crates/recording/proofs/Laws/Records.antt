-- A recording is no byte, or a record and a recording. Assumes nothing.
use Rattle.std.specs.Prelude.{◌≡◌, refl, ℕ, zero, suc, ◌≤◌, ◌<◌, Bool, true, false, [], ◌∷◌, length, take, drop, ltb, Result, Ok, Err}
use Rattle.std.proofs.Common.{ap, ◌∙◌, arith, length-drop}
use Rattle.cel_text.specs.Byte.{Text}
use Rattle.groups.specs.declared.Number.{Number}
use Rattle.groups.specs.declared.Fault.{Fault}
use Rattle.groups.specs.Groups.{number}
use Rattle.groups.proofs.Laws.{Fits, number_fits}
use Rattle.recording.specs.Replay.{Recording, first, body_then, record_then, record_or, records_in, records}

pub shorter-rest : (n size : ℕ) (x : Text) → 1 ≤ size → size ≤ length x → length (drop n (drop size x)) < length x
shorter-rest n size x h l = simp (length-drop, length-drop) (omega arith)

-- two readers that agree on shorter recordings agree on this one
module _ (f g : Text → Recording) (x : Text) (agree : (y : Text) → length y < length x → f y ≡ g y) where
  body-agree : (n size : ℕ) (short : Bool) → 1 ≤ size → size ≤ length x → body_then f n (drop size x) short ≡ body_then g n (drop size x) short
  body-agree n size true h l = refl
  body-agree n size false h l = ap (λ (r : Recording). first (take n (drop size x)) r) (agree (drop n (drop size x)) (shorter-rest n size x h l))

  record-agree : (q : Result Number Fault) → Fits 2 (length x) q → record_then f x q ≡ record_then g x q
  record-agree (Ok n) h = body-agree n.value n.size (ltb (length (drop n.size x)) n.value) h.0 h.1
  record-agree (Err fault) h = refl

either-agree : (f g : Text → Recording) (x : Text) → ((y : Text) → length y < length x → f y ≡ g y) → record_or f x ≡ record_or g x
either-agree f g [] agree = refl
either-agree f g (b ∷ x) agree = record-agree f g (b ∷ x) agree (number (b ∷ x)) (number_fits (b ∷ x))

enough : (m k : ℕ) (x : Text) → length x ≤ m → length x ≤ k → records_in m x ≡ records_in k x
enough zero zero x h l = refl
enough zero (suc k) [] h l = refl
enough zero (suc k) (b ∷ x) h l = absurd (omega arith)
enough (suc m) zero [] h l = refl
enough (suc m) zero (b ∷ x) h l = absurd (omega arith)
enough (suc m) (suc k) x h l =
    either-agree (λ (y : Text). records_in m y) (λ (y : Text). records_in k y) x (λ y s. enough m k y (omega arith) (omega arith))

pub records-next : (x : Text) → records x ≡ record_or records x
unfolding records
records-next x =
    enough (length x) (suc (length x)) x (omega arith) (omega arith)
    ∙ either-agree (λ (y : Text). records_in (length x) y) records x (λ y s. enough (length x) (length y) y (omega arith) (omega arith))

-- the record at the front
pub records-number : (x : Text) (q : Result Number Fault) → number x ≡ q → 1 ≤ length x → records x ≡ record_then records x q
records-number [] q e h = absurd (omega arith)
records-number (b ∷ x) q e h = records-next (b ∷ x) ∙ ap (λ (r : Result Number Fault). record_then records (b ∷ x) r) e
