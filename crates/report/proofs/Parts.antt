-- Parts of a line of words, parts of a text, and strings one after the other. Assumes nothing.
use mathlib.Core.Path.{◌≡◌, refl, sym, ap, ◌∙◌}
use Prim.Native.Nat.{◌≤◌, ℕ, zero, suc, ◌+◌, ◌-◌, ◌*◌, ◌<◌, min}
use native.Mathlib.Nat.{zero-add, suc-add, add-zero}
use native.Mathlib.Numerals.{add-one}
use native.Mathlib.Decide.{dec_le}
use native.Mathlib.Omega.{arith}
use mathlib.Core.List.{List, [], ◌∷◌, ◌++◌, append_assoc, append-nil}
use lib.ListN.{length, get_or, take, length-take, drop_of_length-le}
use lib.Seq.{slice}
use Rattle.cel_text.specs.Byte.{Text}
use Rattle.cel_text.specs.Table.{Words}
use Rattle.cel_policy.specs.Policy.{Span}
use Rattle.cel_policy.specs.Spans.{span_at, spans_at}
use Rattle.lines.specs.Fields.{part_from, part_end}
use Rattle.report.specs.Words.{part}
use Rattle.report.specs.Policy.{string_text, strings_text}

-- a part past those that a line has
from-end : (n : ℕ) (line : Text) → part_from 124 n line (length line) ≡ length line
from-end zero line = refl
from-end (suc n) line =
    let m : min (part_end 124 line (length line) + 1) (length line) ≡ length line = omega arith in
    rw m (from-end n line)

from-more : (m n : ℕ) (line : Text) (at : ℕ) → part_from 124 (m + n) line at ≡ part_from 124 n line (part_from 124 m line at)
from-more zero n line at = rw zero-add
from-more (suc m) n line at = rw suc-add (from-more m n line (min (part_end 124 line at + 1) (length line)))

pub part-none : (line : Text) (m n : ℕ) → part_from 124 m line 0 ≡ length line → m ≤ n → part line n ≡ []
unfolding part
part-none line m n e h =
    let k : n ≡ m + (n - m) = omega arith in
    let f : part_from 124 n line 0 ≡ length line =
    ap (λ (i : ℕ). part_from 124 i line 0) k ∙ from-more m (n - m) line 0 ∙ ap (part_from 124 (n - m) line) e ∙ from-end (n - m) line in
    let past : (to : ℕ) → slice (length line) to line ≡ [] = λ to. drop_of_length-le (take to line) {i = length line} (omega (arith, length-take to line)) in
    rw f (past _)

pub part-other : (line : Text) (m n : ℕ) → part line 0 ≡ [] → part_from 124 m line 0 ≡ length line → (n < m → n ≡ 0) → part line n ≡ []
part-other line m n z e h =
    elim (dec_le m n) [
      | yes l ↦ part-none line m n e l
      | no l ↦ ap (part line) (h (omega (arith, l))) ∙ z
    ]

-- a part of a text, as far as it has the bytes
module _ (x : Text) (from to end : ℕ) (within : end ≡ min to (length x)) where
  pub part-outside : end < from → slice from to x ≡ []
  part-outside h = drop_of_length-le (take to x) {i = from} (omega (arith, length-take to x))

-- one string more of the span table
spans-more : (ws : Words) (n i : ℕ) → spans_at ws (suc n) i ≡ spans_at ws n i ++ (span_at ws (i + n) ∷ [])
spans-more ws zero i = rw add-zero
spans-more ws (suc n) i =
    ap (λ (l : List Span). span_at ws i ∷ l)
    (spans-more ws n (suc i) ∙ ap (λ (k : ℕ). spans_at ws n (suc i) ++ (span_at ws k ∷ [])) (omega arith))

strings-append : (x : Text) (a b : List Span) → strings_text x (a ++ b) ≡ strings_text x a ++ strings_text x b
strings-append x [] b = refl
strings-append x (s ∷ a) b =
    ap (λ (t : Text). string_text x s.from s.to ++ t) (strings-append x a b)
    ∙ sym (append_assoc (string_text x s.from s.to) (strings_text x a) (strings_text x b))

pub strings-more : (x : Text) (ws : Words) (first i from to : ℕ) → from ≡ get_or ws (2 * (first + i)) 0 → to ≡ get_or ws (2 * (first + i) + 1) 0
    → strings_text x (spans_at ws i first) ++ string_text x from to ≡ strings_text x (spans_at ws (i + 1) first)
strings-more x ws first i from to f t =
    let past : to ≡ get_or ws (suc (2 * (first + i))) 0 = t ∙ ap (λ (k : ℕ). get_or ws k 0) (add-one (2 * (first + i))) in
    (λ k. strings_text x (spans_at ws i first) ++ string_text x (f k) (past k))
    ∙ ap (λ (u : Text). strings_text x (spans_at ws i first) ++ u) (sym (append-nil (string_text x (span_at ws (first + i)).from (span_at ws (first + i)).to)))
    ∙ sym (strings-append x (spans_at ws i first) (span_at ws (first + i) ∷ []))
    ∙ ap (strings_text x) (sym (spans-more ws i first) ∙ ap (λ (n : ℕ). spans_at ws n first) (sym (add-one i)))
