-- From what was read and printed to the host's number and output. Assumes nothing.
use mathlib.Core.Path.{◌≡◌, refl, sym, ap, subst, ◌∙◌}
use Prim.Native.Nat.{ℕ, ◌+◌, ◌≤◌}
use native.Mathlib.Omega.{arith}
use lib.ListN.{length, replicate}
use lib.Dec.{lit≤}
use Rattle.cel_text.specs.Byte.{Text, string_byte}
use Rattle.cel_text.specs.Table.{Words, node_words, hold_over}
use Rattle.cel_policy.specs.Mapping.{node_of}
use Rattle.cel_policy.specs.Spans.{span_words}
use Rattle.cel_policy.specs.Answers.{FoundPolicy, policy, unmapped, unread, find_policy, PolicyAnswer, policy_answered, policy_answer, spans_held, policy_spans_over}
use Rattle.cel_policy.specs.Answers.{any_byte, Printing, written, unprinted, find_print, PrintAnswer, print_answered, print_answer, output, print_output}
use Rattle.cel_policy.specs.Answers.{reprinted, find_canonical, one_number, refusal_base, canonical_answer, canonical_output}
use Rattle.cel_policy.proofs.Laws.Readable.{readable}
use Rattle.cel_policy.proofs.Laws.SpanTable.{print-read}
use Rattle.cel_policy.proofs.Laws.Judging.{print-read-any}
use Rattle.cel_policy.proofs.Laws.Refusals.{Gives, OfPrint, print-gives, find_policy-cases, fault_number-range, refusal-range, policy-refusals}

-- the host's tables
abbrev pub nodes_lent : Words
nodes_lent = replicate node_words 0

abbrev pub spans_lent : Words
spans_lent = replicate span_words 0

-- ---- what the read found, and what is printed of it

module _ (x : Text) (room : ℕ) where
  abbrev policy_found : FoundPolicy
  policy_found = find_policy string_byte node_words span_words x

  refused-found : (f : FoundPolicy) → ((policy_answered f).answer.refusal ≡ 0 → ⊥) → reprinted string_byte f x room ≡ unprinted (policy_answered f).answer.refusal 0
  refused-found (policy t p) z = absurd (z refl)
  refused-found (unmapped t r) z = refl
  refused-found (unread r p) z = refl

  -- over any bytes, from the table that was read over, it is what canonicalising prints
  abbrev Same : FoundPolicy → Type 0
  Same f =
      (policy_answered f).answer.refusal ≡ 0
      → find_print any_byte (policy_answered f).policy (spans_held hold_over f spans_lent) x room ≡ reprinted string_byte f x room

  printed-found : Same policy_found
  printed-found =
      find_policy-cases string_byte node_words span_words x Same (λ a e. absurd (omega arith)) (λ e. absurd (omega arith)) (λ p e. absurd (omega arith))
      (λ f p e. absurd (omega (arith, fault_number-range f))) (λ t r m e. absurd (omega (arith, refusal-range (node_of x t 0) r m)))
      (λ t q p r m e.
      let h = readable string_byte x t q p r m in
      print-read-any string_byte x p h _ room ∙ sym (print-read string_byte x p h _ room))

module _ (x out : Text) {read : PolicyAnswer} (is_read : read ≡ policy_answer node_words span_words x) where
  pub read_small : read.answer.refusal ≤ 16
  read_small = subst (λ (a : PolicyAnswer). a.answer.refusal ≤ 16) (sym is_read) (policy-refusals node_words span_words x)

  -- ---- refused while it was read
  pub host-unread : (read.answer.refusal ≡ 0 → ⊥) → (refusal_base + read.answer.refusal ≡ canonical_answer x (length out)) × (out ≡ canonical_output x out)
  unfolding policy_answer canonical_answer canonical_output find_canonical
  host-unread z = rw (is_read) (rw (refused-found x (length out) (policy_found x (length out)) (rw is_read at z)) (refl, refl))

  -- ---- and after it was read
  module _
      (accepted : read.answer.refusal ≡ 0)
      {ws : Words}
      (are_spans : ws ≡ policy_spans_over x nodes_lent spans_lent)
      {a : PrintAnswer}
      {out' : Text}
      (is_print : a ≡ print_answer any_byte read.policy ws x (length out))
      (is_output : out' ≡ print_output any_byte read.policy ws x out)
    where
      same-print : find_print any_byte read.policy ws x (length out) ≡ find_canonical string_byte x (length out)
      unfolding policy_answer policy_spans_over find_canonical
      same-print =
          (λ i. find_print any_byte (is_read i).policy (are_spans i) x (length out))
          ∙ printed-found x (length out) (ap (λ (p : PolicyAnswer). p.answer.refusal) (sym is_read) ∙ accepted)

      same_answer : a ≡ print_answered (find_canonical string_byte x (length out))
      unfolding print_answer
      same_answer = is_print ∙ ap print_answered same-print

      same-output : out' ≡ canonical_output x out
      unfolding print_output canonical_output
      same-output = is_output ∙ ap (λ (w : Printing). output w out) same-print

      few : (w : Printing) → Gives OfPrint w → (print_answered w).refusal ≤ 24
      few (written t) g = lit≤ tt
      few (unprinted r p) g = g.1

      gives : Gives OfPrint (find_canonical string_byte x (length out))
      gives = subst (Gives OfPrint) same-print (print-gives any_byte read.policy ws x (length out))

      pub print-small : a.refusal ≤ 24
      print-small = rw same_answer (few (find_canonical string_byte x (length out)) gives)

      one-length : (w : Printing) → Gives OfPrint w → (print_answered w).refusal ≡ 0 → (print_answered w).length ≡ one_number w
      one-length (written t) g e = refl
      one-length (unprinted r p) g e = absurd (omega (arith, g))

      one-refusal : (w : Printing) → ((print_answered w).refusal ≡ 0 → ⊥) → refusal_base + (print_answered w).refusal ≡ one_number w
      one-refusal (written t) z = absurd (z refl)
      one-refusal (unprinted r p) z = refl

      pub host-printed : a.refusal ≡ 0 → (a.length ≡ canonical_answer x (length out)) × (out' ≡ canonical_output x out)
      unfolding canonical_answer
      host-printed z = (rw same_answer (one-length (find_canonical string_byte x (length out)) gives (rw same_answer at z)), same-output)

      pub host-unprinted : (a.refusal ≡ 0 → ⊥) → (refusal_base + a.refusal ≡ canonical_answer x (length out)) × (out' ≡ canonical_output x out)
      unfolding canonical_answer
      host-unprinted z = (rw same_answer (one-refusal (find_canonical string_byte x (length out)) (rw same_answer at z)), same-output)
