-- Judging step by step, and printing after it. Assumes nothing.
use Rattle.std.proofs.Common.{◌≡◌, ℕ, ◌<◌, ◌≤◌, Bool, true, false, sym, ap, ◌∙◌, subst, zero-add, Result, Ok, Err, IfOk}
use Rattle.std.proofs.lemmas.Result.{err_from_is_err_and}
use Rattle.cel_text.specs.Byte.{Text}
use Rattle.cel_text.specs.Table.{Words}
use Rattle.cel_policy.specs.Policy.{Counted, string_count, numbers}
use Rattle.cel_policy.specs.Printed.{shaped, max_response_only}
use Rattle.cel_policy.specs.Answers.{span_fits, bytes_fit, any_byte, first_fault, Judgement, clean, faulty, unless_faulty, judgement, find_print}
use Rattle.cel_policy.specs.Inside.{SpanInside}
use Rattle.cel_policy.specs.declared.Policy.{Policy}
use Rattle.cel_policy.proofs.Laws.SpanTable.{unless-clean}
use Rattle.cel_policy.proofs.Laws.Judging.{fitting-inside, shaped-few, then_judged, judgement-any, judgement-then}
use Rattle.create_cel_expr.specs.declared.refusal.Refusal.{Refusal}
use Rattle.create_cel_expr.specs.declared.checked.Checked.{Checked}
use Rattle.create_cel_expr.specs.Given.{IsOf, count_of}
use Rattle.create_cel_expr.specs.Judged.{judged_as, printing}

module _ (k : Counted) (ws : Words) (x : Text) where
  -- the same, as judging tells it
  pub judged-inside : {n : ℕ} → n ≡ string_count k → clean ≡ unless_faulty 21 (first_fault (span_fits ws x) n 0) clean → (i : ℕ) → i < string_count k → SpanInside ws x i
  judged-inside {n} h f i l =
      let none_faulty = (unless-clean 21 (first_fault (span_fits ws x) n 0) clean (sym f)).0 in
      subst (SpanInside ws x) (zero-add i) (fitting-inside none_faulty i (rw h l))

  -- 20, and 21 after it
  module _ {r : Bool} (e : r ≡ shaped k) where
    pub judged-20 : r ≡ false → faulty 20 0 ≡ judgement any_byte k ws x
    judged-20 t = rw (judgement-any k ws x, sym e ∙ t)

    pub judged-few : r ≡ true → {n : ℕ} → n ≡ string_count k → n ≤ max_response_only
    judged-few t h = rw h (shaped-few k (sym e ∙ t))

    pub judged-21 : r ≡ true → {n : ℕ} {j : Judgement} → n ≡ string_count k → j ≡ unless_faulty 21 (first_fault (span_fits ws x) n 0) clean → j ≡ judgement any_byte k ws x
    judged-21 t h f = rw (judgement-any k ws x, sym e ∙ t) (f ∙ ap (λ (n : ℕ). unless_faulty 21 (first_fault (span_fits ws x) n 0) clean) h)

  -- 22 after both
  module _ (S : ℕ → Bool) where
    pub judged-faulty : {r i : ℕ} → faulty r i ≡ judgement any_byte k ws x → faulty r i ≡ judgement S k ws x
    judged-faulty e = ap (λ (g : Judgement). then_judged g (unless_faulty 22 (first_fault (bytes_fit S ws x) (string_count k) 0) clean)) e ∙ sym (judgement-then k ws x S)

-- what was judged over all bytes is of that policy, text and table
module _ (S : ℕ → Bool) (p : Policy) (ws : Words) (x : Text) where
  pub judged-22 :
      (g : Checked) {j : Judgement} → IsOf p x ws g → clean ≡ judgement any_byte (numbers p) ws x
      → j ≡ unless_faulty 22 (first_fault (bytes_fit S g.spans.now g.text.now) (count_of g) 0) clean → j ≡ judgement S (numbers p) ws x
  judged-22 g s e f =
      rw (s.0, s.1, s.2) at f
      ∙ ap (λ (g : Judgement). then_judged g (unless_faulty 22 (first_fault (bytes_fit S ws x) (string_count (numbers p)) 0) clean)) e
      ∙ sym (judgement-then (numbers p) ws x S)

  -- what is printed after it
  pub printing_found :
      (room : ℕ) (j : Result Checked Refusal) → judged_as j ≡ judgement S (numbers p) ws x → IfOk j (IsOf p x ws)
      → printing j room ≡ find_print S (numbers p) ws x room
  unfolding find_print
  printing_found room (Ok c) e s = rw (sym e, s.0, s.1, s.2)
  printing_found room (Err f) e s = rw (sym e)

pub ruleset judging = (judged-20, judged-few, judged-21, judged-faulty, judged-22, err_from_is_err_and)
