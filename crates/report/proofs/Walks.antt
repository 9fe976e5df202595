-- One byte more, or one node more, of the ways through a text and its table. Assumes nothing.
use mathlib.Core.Path.{◌≡◌, refl, ap, ◌∙◌}
use Prim.Native.Nat.{ℕ, zero, suc, ◌+◌, ◌-◌, ◌≤◌, ◌<◌}
use native.Mathlib.Nat.{add-zero, zero-add}
use native.Mathlib.Numerals.{add-one}
use native.Mathlib.Omega.{arith}
use mathlib.Core.Bool.{cond}
use mathlib.Core.Bool.{Bool}
use mathlib.Core.List.{List, [], ◌∷◌, ◌++◌, reverse}
use lib.ListN.{length, get_or, take, drop, drop_of_length-le, length-append}
use lib.Seq.{drop-cons, take-suc}
use lib.Dec.{eqb, ltb}
use borrow.Author.Tests.{lt-ltb, le-ltb}
use borrow.Table.Steps.{cases}
use Rattle.std.specs.List.{filter, range_with_len}
use Rattle.std.proofs.lemmas.List.{reverse-append}
use Rattle.std.proofs.lemmas.List.Elements.{filter-append}
use Rattle.cel_text.specs.Byte.{Text}
use Rattle.cel_text.specs.Tree.{array}
use Rattle.cel_text.specs.Table.{Words, kind_number}
use Rattle.page.specs.Page.{shown_byte}
use Rattle.report.specs.declared.window.Side.{Side}
use Rattle.report.specs.Window.{back_from, forth_from, back, forth, between_text, last_of, caret_text}
use Rattle.report.specs.Node.{kind_at, arrays_before, bracket_at}

-- forth over bytes: a place before them is added to where they end
pub forth-moved : (bs : Text) (room k at columns : ℕ)
    → record { at = k + (forth_from bs room at columns).at; columns = (forth_from bs room at columns).columns } ≡ forth_from bs room (k + at) columns
forth-moved [] room k at columns = refl
forth-moved (b ∷ bs) room k at columns =
    cases (ltb (room - columns) (length (shown_byte b)))
    (λ e. rw e)
    (λ e. rw e (forth-moved bs room k (suc at) (columns + length (shown_byte b)) ∙ ap (λ (n : ℕ). forth_from bs room n (columns + length (shown_byte b))) (omega arith)))

-- back from a place: forth over the bytes before it, the last of them first
pub back-reversed : (x : Text) (room at n columns : ℕ) → at ≤ length x
    → record { at = at + n - (forth_from (reverse (take at x)) room n columns).at; columns = (forth_from (reverse (take at x)) room n columns).columns } ≡ back_from x room at columns
back-reversed x room zero n columns h = let e : 0 + n - n ≡ 0 = omega arith in rw e
back-reversed x room (suc at) n columns h =
    let w : ℕ = length (shown_byte (get_or x at 0)) in
    let b : reverse (take (suc at) x) ≡ get_or x at 0 ∷ reverse (take at x) =
    ap reverse (take-suc x at 0 (omega arith)) ∙ reverse-append (take at x) (get_or x at 0 ∷ []) in
    rw b
    (cases (ltb (room - columns) (length (shown_byte (get_or x at 0))))
    (λ e. let k : suc at + n - n ≡ suc at = omega arith in rw (e, k))
    (λ e. let k : suc at + n ≡ at + suc n = omega arith in rw (e, k) (back-reversed x room at (suc n) (columns + w) (omega arith))))

-- forth over the bytes from place i on
module _ (x : Text) (room i at columns : ℕ) where
  pub forth-stop : i < length x → room - columns < length (shown_byte (get_or x i 0)) → record { at = at; columns = columns } ≡ forth_from (drop i x) room at columns
  forth-stop l h = rw (drop-cons x i 0, lt-ltb (room - columns) (length (shown_byte (get_or x i 0))) h)

  pub forth-more : i < length x → length (shown_byte (get_or x i 0)) ≤ room - columns
      → forth_from (drop i x) room at columns ≡ forth_from (drop (i + 1) x) room (at + 1) (columns + length (shown_byte (get_or x i 0)))
  forth-more l h = rw (add-one i, add-one at, drop-cons x i 0, le-ltb (room - columns) (length (shown_byte (get_or x i 0))) h)

  pub forth-end : length x ≤ i → record { at = at; columns = columns } ≡ forth_from (drop i x) room at columns
  forth-end h = rw (drop_of_length-le x {i = i} h)

pub back-passed : (x : Text) (place room : ℕ) (r : Side) → place ≤ length x → r ≡ forth_from (reverse (take place x)) room 0 0
    → record { at = place - r.at; columns = r.columns } ≡ back x place room
unfolding back
back-passed x place room r h e =
    let k : place + 0 ≡ place = omega arith in
    rw e (rw k at (back-reversed x room place 0 0 h))

pub forth-passed : (x : Text) (place room : ℕ) (r : Side) → r ≡ forth_from (drop place x) room 0 0
    → record { at = place + r.at; columns = r.columns } ≡ forth x place room
unfolding forth
forth-passed x place room r e =
    let k : place + 0 ≡ place = omega arith in
    rw e (forth-moved (drop place x) room place 0 0 ∙ ap (λ (n : ℕ). forth_from (drop place x) room n 0) k)

pub forth-within : (bs : Text) (room at columns : ℕ) → (forth_from bs room at columns).at ≤ at + length bs
forth-within [] room at columns = omega arith
forth-within (b ∷ bs) room at columns =
    cases (ltb (room - columns) (length (shown_byte b))) (λ e. rw e (omega arith)) (λ e. rw e (omega (arith, forth-within bs room (suc at) (columns + length (shown_byte b)))))

-- the two sides that the caret's text has
pub caret-is : (x : Text) (place : ℕ) (near last first : Side) → near ≡ back x place 36 → last ≡ forth x place (72 - near.columns)
    → first ≡ back x place (72 - last.columns) → between_text x first last ≡ caret_text x place
unfolding caret_text last_of
caret-is x place near last first n l f =
    let e : last ≡ last_of x place = l ∙ ap (λ (s : Side). forth x place (72 - s.columns)) n in
    (λ k. between_text x (f k) last) ∙ (λ k. between_text x (back x place (72 - (e k).columns)) (e k))

-- the bracket lies in the text
pub bracket_within : (x : Text) (before : ℕ) → bracket_at x before ≤ length x
bracket_within [] before = omega arith
bracket_within (b ∷ x) zero = grind (arith, bracket_within x zero)
bracket_within (b ∷ x) (suc before) = omega (arith, bracket_within x (cond (eqb b 91) before (suc before)))

-- the arrays before a node
range-more : (a n : ℕ) → range_with_len a (suc n) ≡ range_with_len a n ++ ((a + n) ∷ [])
range-more a zero = rw add-zero
range-more a (suc n) = ap (λ (l : List ℕ). a ∷ l) (range-more (a + 1) n ∙ ap (λ (k : ℕ). range_with_len (a + 1) n ++ (k ∷ [])) (omega arith))

length-filter-one : (p : ℕ → Bool) (k : ℕ) → length (filter p (k ∷ [])) ≡ cond (p k) 1 0
length-filter-one p k = cases (p k) (λ e. rw e) (λ e. rw e)

pub arrays-counted : (ws : Words) (n : ℕ) → length (filter (λ (i : ℕ). eqb (kind_at ws i) (kind_number array)) (range_with_len 0 n)) ≡ arrays_before ws n
arrays-counted ws zero = refl
arrays-counted ws (suc n) =
    let p : ℕ → Bool = λ (i : ℕ). eqb (kind_at ws i) (kind_number array) in
    ap (λ (l : List ℕ). length (filter p l)) (range-more 0 n)
    ∙ rw (filter-append, length-append) (rw (arrays-counted ws n, length-filter-one p (0 + n), zero-add n))
