-- Eight bytes as one number: how many spaces they begin with is told by the zeros at the end of what is left when spaces are taken off.
-- Assumes nothing.
use Rattle.std.proofs.Common.{◌≡◌, ℕ, zero, suc, ◌+◌, ◌-◌, ◌*◌, ◌/◌, ◌%◌, ◌^◌, ◌<◌, ◌≤◌, List, [], length, get_or, slice_index, take, drop, sym, refl, ap, ◌∙◌, subst, ⊎_elim, mul_assoc, eq-or-lt_of_le, zero-add, arith, pow-add, drop-drop, length-drop, get_or-drop, take_all}
use Rattle.std.proofs.lemmas.List.{get_or-take}
use Rattle.std.specs.Simd.{first_chunks}
use native.Mathlib.Nat.{pow-succ'}
use lib.Count.{count_trailing_zeros, under, trailing_le}
use Rattle.cel_text.specs.Byte.{Text}
use Rattle.parser.specs.Run.{Spaces}

-- n bytes of x from place p + k on: as one number, the first the lowest; and that they are bytes
abbrev number_at : Text → (p n k : ℕ) → ℕ
number_at x p zero k = 0
number_at x p (suc n) k = slice_index x (p + k) + 256 * number_at x p n (suc k)

abbrev BytesAt : Text → (p n k : ℕ) → Type 0
BytesAt x p zero k = Unit
BytesAt x p (suc n) k = (slice_index x (p + k) < 256) × BytesAt x p n (suc k)

-- n spaces as one number
abbrev spaces_as : ℕ → ℕ
spaces_as zero = 0
spaces_as (suc n) = 32 + 256 * spaces_as n

-- a number is a multiple of 2 to the number of zeros at its end
zeros-divide : (d n : ℕ) → (q : ℕ) × (n ≡ 2 ^ count_trailing_zeros d n * q)
unfolding count_trailing_zeros
zeros-divide zero n = (n, omega arith)
zeros-divide (suc d) n = go (n % 2) refl (zeros-divide d (n / 2))
  where
    go : (r : ℕ) → n % 2 ≡ r → (q : ℕ) × (n / 2 ≡ 2 ^ count_trailing_zeros d (n / 2) * q) → (q : ℕ) × (n ≡ 2 ^ under r (count_trailing_zeros d (n / 2)) * q)
    go zero e (q, h) =
        let t = count_trailing_zeros d (n / 2) in
        let twice : 2 ^ suc t * q ≡ 2 * (2 ^ t * q) = ap (λ (m : ℕ). m * q) (pow-succ' 2 t) ∙ mul_assoc 2 (2 ^ t) q in
        (q, omega (arith, h, e, twice))
    go (suc r) e w = (n, omega arith)

-- a power of 256 more
power-more : (m p : ℕ) → 2 ^ (8 * suc m) * p ≡ 256 * (2 ^ (8 * m) * p)
power-more m p =
    let same : 8 * suc m ≡ 8 + 8 * m = omega arith in
    ap (λ (k : ℕ). 2 ^ k * p) same ∙ ap (λ (k : ℕ). k * p) (pow-add 2 8 (8 * m)) ∙ mul_assoc 256 (2 ^ (8 * m)) p

-- where the m lowest bytes of two numbers are the same, and one is made of spaces
module _ (x : Text) (i : ℕ) where
  lowest : (m n k p q : ℕ) → m ≤ n → BytesAt x i n k → number_at x i n k + 2 ^ (8 * m) * p ≡ spaces_as n + 2 ^ (8 * m) * q
      → (j : ℕ) → i + k ≤ j → j < i + k + m → get_or x j 0 ≡ 32
  lowest zero n k p q le b e j f t = absurd (omega (arith, f, t))
  lowest (suc m) zero k p q le b e j f t = absurd (omega (arith, le))
  lowest (suc m) (suc n) k p q le b e j f t =
      let P = power-more m p in
      let Q = power-more m q in
      let here : get_or x (i + k) 0 ≡ 32 = omega (arith, b.0, e, P, Q) in
      let rest : number_at x i n (suc k) + 2 ^ (8 * m) * p ≡ spaces_as n + 2 ^ (8 * m) * q = omega (arith, b.0, e, P, Q) in
      ⊎_elim (λ s. subst (λ (y : ℕ). get_or x y 0 ≡ 32) s here) (λ s. lowest m n (suc k) p q (omega (arith, le)) b.1 rest j (omega (arith, s)) (omega (arith, t))) (eq-or-lt_of_le f)

-- a power of 2 is a power of 256 and what is left
power-part : (r t q : ℕ) → 8 * r ≤ t → 2 ^ t * q ≡ 2 ^ (8 * r) * (2 ^ (t - 8 * r) * q)
power-part r t q h =
    let same : t ≡ 8 * r + (t - 8 * r) = omega arith in
    ap (λ (k : ℕ). 2 ^ k * q) same ∙ ap (λ (k : ℕ). k * q) (pow-add 2 (8 * r) (t - 8 * r)) ∙ mul_assoc (2 ^ (8 * r)) (2 ^ (t - 8 * r)) q

spaces-told :
    (x : Text) (i n rest : ℕ) → i + 8 ≤ length x → BytesAt x i 8 0 → n ≡ number_at x i 8 0 → (rest + spaces_as 8) % 2 ^ 64 ≡ n
    → Spaces x i (i + count_trailing_zeros 64 rest / 8) × (count_trailing_zeros 64 rest / 8 ≤ 8)
spaces-told x i n rest h b e w = go (count_trailing_zeros 64 rest) (trailing_le 64 rest) (zeros-divide 64 rest)
  where
    even : (a : ℕ) {c p q : ℕ} → 2 ^ 64 * a ≡ p → c ≡ q → rest ≡ c → rest + spaces_as 8 ≡ 2 ^ 64 * a + n → n + p ≡ spaces_as 8 + q
    even a P Q d m = omega arith

    go : (t : ℕ) → t ≤ 64 → (q : ℕ) × (rest ≡ 2 ^ t * q) → Spaces x i (i + t / 8) × (t / 8 ≤ 8)
    go t l (q, d) =
        let r : ℕ = t / 8 in
        let o : ℕ = (rest + spaces_as 8) / 2 ^ 64 in
        let P = power-part r 64 o (omega (arith, l)) in
        let Q = power-part r t q (omega (arith, l)) in
        let whole : rest + spaces_as 8 ≡ 2 ^ 64 * o + n = omega (arith, w) in
        let low : number_at x i 8 0 + 2 ^ (8 * r) * (2 ^ (64 - 8 * r) * o) ≡ spaces_as 8 + 2 ^ (8 * r) * (2 ^ (t - 8 * r) * q) =
        ap (λ (m : ℕ). m + 2 ^ (8 * r) * (2 ^ (64 - 8 * r) * o)) (sym e) ∙ even o P Q d whole in
        let most : r ≤ 8 = omega (arith, l) in
        ((omega arith, omega (arith, h, most), λ j f u. lowest x i r 8 0 (2 ^ (64 - 8 * r) * o) (2 ^ (t - 8 * r) * q) most b low j (omega (arith, f)) (omega (arith, u))), most)

-- so many are the first spaces of eight bytes, where n is their number
pub eight-told : (x : Text) (n : ℕ) → length x ≡ 8 → ((i : ℕ) → get_or x i 0 < 256) → n ≡ number_at x 0 8 0
    → Spaces x 0 (count_trailing_zeros 64 ((n + (2 ^ 64 - spaces_as 8)) % 2 ^ 64) / 8) × (count_trailing_zeros 64 ((n + (2 ^ 64 - spaces_as 8)) % 2 ^ 64) / 8 ≤ 8)
eight-told x n l f e =
    let f₀ = f 0 in
    let f₁ = f 1 in
    let f₂ = f 2 in
    let f₃ = f 3 in
    let f₄ = f 4 in
    let f₅ = f 5 in
    let f₆ = f 6 in
    let f₇ = f 7 in
    let small : n < 2 ^ 64 = omega arith in
    rw zero-add at (spaces-told x 0 n ((n + (2 ^ 64 - spaces_as 8)) % 2 ^ 64) (omega arith) (f₀, (f₁, (f₂, (f₃, (f₄, (f₅, (f₆, (f₇, tt)))))))) e (omega arith))

-- the i-th eight of a text
chunk-at : (k i : ℕ) (x : Text) → i < k → get_or (first_chunks 8 k x) i [] ≡ take 8 (drop (8 * i) x)
chunk-at zero i x h = absurd (omega (arith, h))
chunk-at (suc k) zero x h = refl
chunk-at (suc k) (suc i) x h =
    let more : 8 + 8 * i ≡ 8 * suc i = omega arith in
    chunk-at k i (drop 8 x) (omega (arith, h)) ∙ ap (take 8) (drop-drop (8 * i) 8 x ∙ ap (λ (n : ℕ). drop n x) more)

-- a text from a place on, as a slice of it
abbrev rest : Text → ℕ → Text
rest x at = take (length x - at) (drop at x)

-- spaces at the start of one of the eights from a place on are spaces of the text
pub spaces-chunk : (x : Text) (at : ℕ) (ws : List Text) (i n : ℕ) → at ≤ length x → ws ≡ first_chunks 8 (length (rest x at) / 8) (rest x at) → length ws ≡ length (rest x at) / 8
    → i < length ws → Spaces (get_or ws i []) 0 n → n ≤ 8 → Spaces x (at + 8 * i) (at + 8 * i + n)
spaces-chunk x at ws i n a e k h s m =
    let long : length (drop at x) ≡ length x - at = length-drop at x in
    let all : rest x at ≡ drop at x = take_all (length x - at) (drop at x) (omega arith) in
    let many : length ws ≡ length (drop at x) / 8 = k ∙ ap (λ (l : Text). length l / 8) all in
    let whole : get_or ws i [] ≡ take 8 (drop (at + 8 * i) x)
    = ap (λ (v : List Text). get_or v i []) (e ∙ ap (λ (l : Text). first_chunks 8 (length l / 8) l) all)
    ∙ chunk-at (length (drop at x) / 8) i (drop at x) (omega arith) ∙ ap (take 8) (drop-drop (8 * i) at x) in (
      omega arith,
      omega arith,
      λ j f t.
          let here : at + 8 * i + (j - (at + 8 * i)) ≡ j = omega arith in
          ap (λ (q : ℕ). get_or x q 0) (sym here)
          ∙ sym (get_or-drop (at + 8 * i) x (j - (at + 8 * i)) 0)
          ∙ sym (get_or-take 8 (drop (at + 8 * i) x) (j - (at + 8 * i)) 0 (omega arith))
          ∙ ap (λ (l : Text). get_or l (j - (at + 8 * i)) 0) (sym whole)
          ∙ s.2 (j - (at + 8 * i)) (omega arith) (omega arith),
    )
