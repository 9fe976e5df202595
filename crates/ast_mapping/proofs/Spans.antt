-- Strings put into the span table, one after the other. Assumes nothing.
use mathlib.Core.Path.{◌≡◌, refl, sym, ap, ◌∙◌}
use Prim.Native.Nat.{ℕ, zero, suc, ◌+◌, ◌-◌, ◌*◌, ◌≤◌, ◌<◌}
use native.Mathlib.Omega.{arith}
use native.Mathlib.Numerals.{add-one}
use mathlib.Core.List.{List, ◌++◌, append_assoc}
use lib.ListN.{length, set, length-append}
use lib.Seq.{sets}
use Rattle.cel_text.specs.Table.{Words, word, row_at}
use Rattle.cel_policy.specs.Policy.{Span}
use Rattle.cel_policy.specs.Spans.{span_rows}
use Rattle.cel_policy.proofs.Laws.SpanTable.{span_rows-append, length-span_rows}
use Rattle.parser.specs.Rows.{row_told}
use Rattle.parser.specs.declared.row.Row.{Row}
use Rattle.parser.proofs.Rows.{sets-append}
use Rattle.ast_mapping.specs.declared.mapping.Request.{Request}
use Rattle.ast_mapping.specs.declared.mapping.Response.{Response}
use Rattle.ast_mapping.specs.declared.mapping.Mapped.TheVariants.{Full}
use Rattle.ast_mapping.specs.View.{RowRead, spans_from, strings_of, Tabled}
use Rattle.ast_mapping.specs.Steps.{list_number, policy_as}
use Rattle.ast_mapping.specs.Spans.{PutList, Put}
use Rattle.ast_mapping.proofs.View.{row_read, tabled-row}

pub length-spans_from : (w : Words) (m n : ℕ) → length (spans_from w n m) ≡ m
length-spans_from w zero n = refl
length-spans_from w (suc m) n = ap suc (length-spans_from w m (suc n))

length-strings : (w : Words) (n : ℕ) → length (strings_of w n) ≡ word w n 7 - suc n
length-strings w n = length-spans_from w (word w n 7 - suc n) (suc n)

-- a list that is put, whose row was read
module _ {w : Words} {n : ℕ} (t : Tabled w n) {whole : Row} (k : row_told whole ≡ row_at w n) where
  past : whole.past.0 ≡ word w n 7
  past = (row_read k (tabled-row t n t.begun)).past

  -- string i
  module _ {i : ℕ} (more : i < whole.past.0 - (n + 1)) where
    pub place-room : (from : ℕ) {l l₀ : ℕ} → 2 * (from + length (strings_of w n)) ≤ l₀ → l ≡ l₀ → 2 * (from + i) + 1 < l
    place-room from h e = omega (arith, length-strings w n, past)

    pub string-read : {r : Row} → row_told r ≡ row_at w (n + 1 + i) → RowRead w (n + 1 + i) r
    string-read e = row_read e (tabled-row t (n + 1 + i) (omega (arith, past)))

  pub put-all : {s s' : Words} (from i : ℕ) → whole.past.0 - (n + 1) ≤ i
      → sets s (2 * from) (span_rows (spans_from w (n + 1) (whole.past.0 - (n + 1))))
      ≡ sets s' (2 * (from + i)) (span_rows (spans_from w (n + 1 + i) (whole.past.0 - (n + 1) - i)))
      → PutList w n s s' from (from + (whole.past.0 - (n + 1)))
  put-all {s} {s'} from i h e =
      let none : whole.past.0 - (n + 1) - i ≡ 0 = omega arith in
      record { rows = sym (rw (none, past, add-one) at e); count = omega (arith, length-strings w n, past) }

-- one string more
pub put_one : (w s : Words) (first from count i : ℕ) → i < count
    → sets s (2 * (from + i)) (span_rows (spans_from w (first + i) (count - i)))
    ≡ sets (set (set s (2 * (from + i)) (word w (first + i) 1)) (2 * (from + i) + 1) (word w (first + i) 2)) (2 * (from + (i + 1)))
    (span_rows (spans_from w (first + (i + 1)) (count - (i + 1))))
put_one w s first from count i h =
    let left : count - i ≡ suc (count - (i + 1)) = omega arith in
    let one : 2 * (from + i) + 1 ≡ suc (2 * (from + i)) = omega arith in
    let two : 2 * (from + (i + 1)) ≡ suc (suc (2 * (from + i))) = omega arith in
    let after : first + (i + 1) ≡ suc (first + i) = omega arith in
    rw (left, one, two, after)

-- ---- the three lists

put-more : (s : Words) (from : ℕ) (a b : List Span) → sets (sets s (2 * from) (span_rows a)) (2 * (from + length a)) (span_rows b) ≡ sets s (2 * from) (span_rows (a ++ b))
put-more s from a b =
    let place : 2 * from + length (span_rows a) ≡ 2 * (from + length a) = omega (arith, length-span_rows a) in
    rw (span_rows-append a b, sym place) (sym (sets-append (span_rows a) (span_rows b) s (2 * from)))

module _ (w : Words) (q : Request) (l : Response) (s s₁ s₂ s₃ : Words) (a b c : ℕ) where
  pub put-lists : PutList w q.headers.0 s s₁ 0 a → PutList w q.query.0 s₁ s₂ a b → PutList w l.list.0 s₂ s₃ b c
      → Put (policy_as w (Full q l)) s s₃ (record { form = 3; kind = list_number l.kind; request = a; query = b - a; response = c - b })
  put-lists d e f =
      let A : List Span = strings_of w q.headers.0 in
      let B : List Span = strings_of w q.query.0 in
      let C : List Span = strings_of w l.list.0 in
      let first : a ≡ length A = omega (arith, d.count) in
      let second : b - a ≡ length B = omega (arith, e.count) in
      let third : c - b ≡ length C = omega (arith, f.count) in
      let two : s₂ ≡ sets s (2 * 0) (span_rows (A ++ B)) = e.rows ∙ rw (d.rows, d.count) (put-more s 0 A B) in
      let place : b ≡ 0 + length (A ++ B) = omega (arith, d.count, e.count, length-append A B) in
      record {
        rows = f.rows ∙ rw (two, place) (put-more s 0 (A ++ B) C) ∙ ap (λ (ss : List Span). sets s 0 (span_rows ss)) (append_assoc A B C);
        counts = cc (first, second, third);
      }
