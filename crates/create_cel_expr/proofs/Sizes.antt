-- The printed text's length decides what is printed. Assumes nothing.
use Rattle.std.proofs.Common.{◌≡◌, ℕ, ◌<◌, ◌≤◌, ◌++◌, length, drop, ap, ◌∙◌, zero-add, arith}
use Rattle.cel_text.specs.Byte.{Text}
use Rattle.cel_text.specs.Answer.{max_text}
use Rattle.cel_policy.specs.Policy.{Policy}
use Rattle.cel_policy.specs.Printed.{printed, printed_length}
use Rattle.cel_policy.specs.Answers.{unprinted, written, sized, output}
use Rattle.cel_policy.proofs.Laws.Lengths.{length-printed}
use Rattle.cel_policy.proofs.Laws.Entries.{sized-fits, sized-long, sized-short}
use Rattle.pieces.specs.Pieces.{Wrote, Fits}
use Rattle.pieces.specs.Laws.{wrote-whole}

module _ (p : Policy Text) (room : ℕ) where
  pub printed-long : max_text < printed_length p → sized (printed p) room ≡ unprinted 23 0
  printed-long h = sized-long (printed p) room (omega (arith, length-printed p))

  pub printed-short : printed_length p ≤ max_text → room < printed_length p → sized (printed p) room ≡ unprinted 24 0
  printed-short h r = sized-short (printed p) room (omega (arith, length-printed p)) (omega (arith, length-printed p))

  pub printed-fits : printed_length p ≤ max_text → printed_length p ≤ room → sized (printed p) room ≡ written (printed p)
  printed-fits h r = sized-fits (printed p) room (omega (arith, length-printed p)) (omega (arith, length-printed p))

pub fits-printed : (p : Policy Text) (out : Text) → printed_length p ≤ length out → Fits out 0 (printed p)
fits-printed p out r = record { room = omega (arith, length-printed p) }

-- the text that is written stands at the front, and the rest is as it was
pub written-front :
    (p : Policy Text) {out out' : Text} {past : ℕ} → printed_length p ≤ max_text → printed_length p ≤ length out → Wrote out out' 0 past (printed p)
    → out' ≡ output (sized (printed p) (length out)) out
written-front p {out = out} h r w =
    rw (printed-fits p (length out) h r)
    ((wrote-whole w (omega (arith, length-printed p))).1 ∙ ap (λ (m : ℕ). printed p ++ drop m out) (zero-add (length (printed p))))

pub ruleset sizes = (printed-long, printed-short, printed-fits, fits-printed, length-printed)
