-- Where a byte stands in a part of a text, as `position` finds it. Assumes nothing.
use Rattle.std.proofs.Common.{◌≡◌, refl, ℕ, ◌+◌, ◌-◌, ◌≤◌, min, cond, eqb, ltb, List, [], ◌∷◌, length, take, drop, Some, None, sym, ap, arith, ltb-false}
use Rattle.std.proofs.lemmas.List.{take_min}
use Rattle.std.proofs.lemmas.List.Recursion.{is_position_or_len}
use Rattle.std.proofs.Math.ListN.{length-drop}
use Rattle.std.specs.List.{position_or_len}
use Rattle.std.specs.Option.{unwrap_or}
use borrow.Table.Steps.{cases}
use Rattle.lines.specs.Bytes.{index_of, slice}

index_of-within : (b : ℕ) (xs : List ℕ) → index_of b xs ≤ length xs
index_of-within b [] = omega arith
index_of-within b (x ∷ xs) = cases (eqb x b) (λ t. rw t (omega arith)) (λ t. rw t (omega (arith, index_of-within b xs)))

-- a place in the list, or the list's length
place-or_length : (i n : ℕ) → i ≤ n → unwrap_or (cond (ltb i n) (Some i) None) n ≡ i
place-or_length i n h = cases (ltb i n) (λ t. rw t) (λ t. rw t (omega (arith, h, ltb-false i n t)))

pub position-index_of : (b : ℕ) (xs : List ℕ)
    → unwrap_or (cond (ltb (position_or_len (λ x. eqb x b) xs) (length xs)) (Some (position_or_len (λ x. eqb x b) xs)) None) (length xs) ≡ index_of b xs
position-index_of b xs =
    let step : (x : ℕ) (ys : List ℕ) → index_of b (x ∷ ys) ≡ cond (eqb x b) 0 (1 + index_of b ys) = λ x ys. ap (cond (eqb x b) 0) (omega arith) in
    rw (sym (is_position_or_len (index_of b) (λ x. eqb x b) refl step xs)) (place-or_length (index_of b xs) (length xs) (index_of-within b xs))

-- no part reaches past the text
pub slice-within : (from to : ℕ) (x : List ℕ) → take (min to (length x) - from) (drop from x) ≡ slice from to x
slice-within from to x =
    let e : min to (length x) - from ≡ min (to - from) (length (drop from x)) = simp length-drop (omega arith) in
    rw (e, take_min)
