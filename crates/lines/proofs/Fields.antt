-- One pair of digits, one part of a line more. Assumes nothing.
use Rattle.std.proofs.Common.{◌≡◌, refl, ℕ, zero, suc, ◌+◌, ◌-◌, ◌*◌, ◌/◌, ◌≤◌, ◌<◌, min, List, [], ◌++◌, length, get_or, set, take, drop, sym, ap, ◌∙◌, add-zero, add-one, arith, append-nil, append_assoc}
use Rattle.std.specs.Prelude.{Option, Some, None}
use Rattle.std.specs.Simd.{first_chunks}
use Rattle.std.proofs.lemmas.List.{drop-drop, get_or-drop, get_or-take, length-take-le, take-append-drop}
use lib.ListN.{length-set}
use lib.Seq.{drop-cons, take-suc-set, drop-set-lt}
use borrow.Author.Tests.{le-leb, eq-eqb, ne_eqb}
use Rattle.lines.specs.Fields.{hex_value, pair_before, hex_bytes, hex_count, hex_left, part_end, part_from}

-- the pairs before pair i are in out, and the bytes after them are as lent
pub record Unhexing (x lent out : List ℕ) (i : ℕ) : Type 0 where
  pub long : length out ≡ length lent
  pub pairs : hex_bytes x ≡ take i out ++ hex_bytes (drop (2 * i) x)
  pub rest : drop i out ≡ drop i lent

-- pair i of a field
chunk : (k i : ℕ) (x : List ℕ) → i < k → get_or (first_chunks 2 k x) i [] ≡ take 2 (drop (2 * i) x)
chunk zero i x h = absurd (omega arith)
chunk (suc k) zero x h = refl
chunk (suc k) (suc i) x h =
    let e : 2 + 2 * i ≡ 2 * suc i = omega arith in
    chunk k i (drop 2 x) (omega arith) ∙ ap (take 2) (drop-drop (2 * i) 2 x ∙ ap (λ (n : ℕ). drop n x) e)

module _ {x lent out : List ℕ} {i : ℕ} {cs : List (List ℕ)} (f : cs ≡ first_chunks 2 (length x / 2) x) (h : i < length x / 2) (u : Unhexing x lent out i) where
  at : (j : ℕ) → j < 2 → get_or (get_or cs i []) j 0 ≡ get_or x (2 * i + j) 0
  at j l =
      ap (λ (ys : List (List ℕ)). get_or (get_or ys i []) j 0) f ∙ ap (λ (y : List ℕ). get_or y j 0) (chunk (length x / 2) i x h)
      ∙ get_or-take 2 (drop (2 * i) x) j 0 l ∙ get_or-drop (2 * i) x j 0

  module _ {high low : Option ℕ} (eh : high ≡ hex_value (get_or (get_or cs i []) 0 0)) (el : low ≡ hex_value (get_or (get_or cs i []) 1 0)) where
    here : hex_bytes (drop (2 * i) x) ≡ pair_before high low (hex_bytes (drop (2 * (i + 1)) x))
    here =
        let e : 2 * (i + 1) ≡ suc (suc (2 * i)) = omega arith in
        let a : 2 * i < length x = omega arith in
        let b : suc (2 * i) < length x = omega arith in
        rw (eh, el, at 0 (omega arith), at 1 (omega arith), add-zero, add-one (2 * i), e, drop-cons x (2 * i) 0 a, drop-cons x (suc (2 * i)) 0 b)

    -- no pair of digits: what is in out is all that is left there
    pub no-pair : pair_before high low (hex_bytes (drop (2 * (i + 1)) x)) ≡ [] → 2 * (length x / 2) ≡ length x → length x / 2 ≤ length lent
        → (None ≡ hex_count x (length lent)) × (out ≡ hex_left x lent)
    no-pair s e l =
        let bytes : hex_bytes x ≡ take i out = u.pairs ∙ ap (λ (y : List ℕ). take i out ++ y) (here ∙ s) ∙ append-nil (take i out) in
        let long : length (hex_bytes x) ≡ i = ap length bytes ∙ length-take-le i out (omega (arith, u.long)) in
        let d : length (hex_bytes x) ≡ length x / 2 → ⊥ = λ q. omega (arith, long) in
        (rw (eq-eqb _ _ e, le-leb _ _ l, ne_eqb _ _ d), rw (eq-eqb _ _ e, le-leb _ _ l, long, bytes, sym u.rest, take-append-drop))

  pub one_more : {high low : ℕ} → Some high ≡ hex_value (get_or (get_or cs i []) 0 0) → Some low ≡ hex_value (get_or (get_or cs i []) 1 0)
      → i < length out → Unhexing x lent (set out i (16 * high + low)) (i + 1)
  one_more {high = high} {low = low} eh el r =
      record {
        long = length-set out i (16 * high + low) ∙ u.long;
        pairs = u.pairs ∙ rw (here eh el, add-one, take-suc-set out i (16 * high + low) r, append_assoc);
        rest = drop-set-lt (i + 1) out i (16 * high + low) (omega arith) ∙ sym (drop-drop 1 i out) ∙ ap (drop 1) u.rest ∙ drop-drop 1 i lent;
      }

-- the parts after one that ends at `end`
module _ (mark : ℕ) (line : List ℕ) where
  part_none : (n : ℕ) {at : ℕ} → at ≡ length line → part_from mark n line at ≡ length line
  part_none zero e = e
  part_none (suc n) e = part_none n (omega (arith, e))

  pub part-here : (at : ℕ) {i n : ℕ} → n ≤ i → part_from mark (n - i) line at ≡ at
  part-here at {i = i} {n = n} h = let m : n - i ≡ 0 = omega arith in rw m

  module _ (at : ℕ) {end i n : ℕ} (e : end ≡ part_end mark line at) (h : i < n) where
    part_then : part_from mark (n - i) line at ≡ part_from mark (n - (i + 1)) line (min (end + 1) (length line))
    part_then = let m : n - i ≡ suc (n - (i + 1)) = omega arith in rw (m, e)

    pub part-last : end ≡ length line → part_from mark (n - i) line at ≡ length line
    part-last l = part_then ∙ part_none (n - (i + 1)) (omega arith)

    pub part-next : end ≤ length line → (end ≡ length line → ⊥) → part_from mark (n - i) line at ≡ part_from mark (n - (i + 1)) line (end + 1)
    part-next l d = let m : min (end + 1) (length line) ≡ end + 1 = omega (arith, d) in part_then ∙ rw m
