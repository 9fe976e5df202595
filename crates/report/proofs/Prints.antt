-- What reading and printing give, in words. Assumes nothing.
use mathlib.Core.Path.{◌≡◌, ap}
use Prim.Native.Nat.{ℕ, ◌≤◌}
use native.Mathlib.Omega.{arith}
use mathlib.Core.Bool.{Bool}
use lib.ListN.{take, length}
use lib.Seq.{take-append_seam}
use Rattle.cel_text.specs.Byte.{Text, bytes}
use Rattle.cel_text.specs.Table.{Words, node_words}
use Rattle.cel_text.specs.Answer.{max_text}
use Rattle.cel_policy.specs.Policy.{Counted}
use Rattle.cel_policy.specs.Spans.{span_words}
use Rattle.cel_policy.specs.Answers.{PolicyAnswer, policy_answer, policy_nodes, policy_spans, Printing, written, unprinted, PrintAnswer, print_answered, output, find_print, print_answer, print_output}
use Rattle.cel_policy.proofs.Laws.Refusals.{Gives, OfPrint, print-gives}
use Rattle.page.specs.Page.{said}
use Rattle.report.specs.Policy.{canonical_lines}
use Rattle.report.specs.Report.{answer_text, nodes_lent, spans_lent, reported}

pub text-refused : (p : Printing) (refusal : ℕ) → refusal ≡ (print_answered p).refusal → (refusal ≡ 0 → ⊥)
    → said (bytes "No canonical text (#): it would have more than 8192 bytes.\n") refusal ≡ canonical_lines p
unfolding canonical_lines
text-refused (written t) refusal e z = absurd (z e)
text-refused (unprinted r q) refusal e z = ap (said (bytes "No canonical text (#): it would have more than 8192 bytes.\n")) e

-- where no refusal is answered, the text that was printed stands at the front of the output
within : (p : Printing) → Gives OfPrint p → (print_answered p).refusal ≡ 0 → (print_answered p).length ≤ max_text
within (written t) g z = g
within (unprinted n q) g z = absurd (omega arith)

front : (p : Printing) (lent : Text) → Gives OfPrint p → (print_answered p).refusal ≡ 0
    → canonical_lines (written (take (print_answered p).length (output p lent))) ≡ canonical_lines p
front (written t) lent g z = ap (λ (x : Text). canonical_lines (written x)) (take-append_seam t _)
front (unprinted n q) lent g z = absurd (omega arith)

module _ (S : ℕ → Bool) (k : Counted) (ws : Words) (x : Text) (a : PrintAnswer) (e : a ≡ print_answer S k ws x max_text) (z : a.refusal ≡ 0) where
  pub printed-within : a.length ≤ max_text
  unfolding print_answer
  printed-within =
      rw (ap (λ (b : PrintAnswer). b.length) e) (within (find_print S k ws x max_text) (print-gives S k ws x max_text) (rw (ap (λ (b : PrintAnswer). b.refusal) e) at z))

  pub printed-front : (lent out : Text) → length lent ≡ max_text → out ≡ print_output S k ws x lent
      → canonical_lines (written (take a.length out)) ≡ canonical_lines (find_print S k ws x max_text)
  unfolding print_answer print_output
  printed-front lent out l o =
      rw (ap (λ (b : PrintAnswer). b.length) e, o, l)
      (front (find_print S k ws x max_text) lent (print-gives S k ws x max_text) (rw (ap (λ (b : PrintAnswer). b.refusal) e) at z))

pub report-is : (x : Text) (nodes spans : Words) (a : PolicyAnswer)
    → a ≡ policy_answer node_words span_words x → nodes ≡ policy_nodes x nodes_lent spans_lent → spans ≡ policy_spans x nodes_lent spans_lent
    → answer_text x nodes spans a ≡ reported x
unfolding reported
report-is x nodes spans a e n s = λ k. answer_text x (n k) (s k) (e k)
