-- What is true of numbers and bytes as they are written: how `io` writes them, how long they are, and that they are read back. Assumes nothing.
use Rattle.std.specs.Prelude.{◌≡◌, refl, ℕ, zero, suc, ◌+◌, ◌-◌, ◌*◌, ◌/◌, ◌%◌, ◌^◌, ◌≤◌, ◌<◌, List, [], ◌∷◌, ◌++◌, length, get_or, take, drop, ltb, Some}
use Rattle.std.specs.List.{AllByRecursion}
use Rattle.std.proofs.Common.{sym, ap, ◌∙◌, pow-suc, div-lt_iff_lt-mul, le-div_iff_mul-le, le_of_suc-le-suc, lt_of_not-le, add-one, arith, append_assoc, append-nil, length-append, take-suc, lt-ltb, le-ltb, le-leb, ltb-true, ltb-false}
use Rattle.std.proofs.Math.Nat.{pow-le-pow_right}
use Rattle.std.proofs.Math.Seq.{take-length}
use Rattle.std.proofs.lemmas.Bool.{lt-leb}
use borrow.Table.Steps.{cases}
use Rattle.io.specs.Digits.{hex_digit_ascii, last_digits, IsDigitCount}
use Rattle.lines.specs.Fields.{hex_value, hex_bytes, read_from, read_decimal}
use Rattle.lines.specs.Texts.{numeral_in, numeral, after_commas, numerals, pair, pairs}

-- ---- numbers

glyph-digit : (d : ℕ) → d < 10 → hex_digit_ascii d ≡ 48 + d
glyph-digit d h = rw (lt-ltb d 10 h)

-- a number of one digit; one of more
one-digit : (k n : ℕ) → IsDigitCount 10 1 n (suc k) → n < 10 → k ≡ 0
one-digit zero n f h = refl
one-digit (suc k) n f h =
    absurd (let p : 10 ^ (suc (suc k) - 1) ≤ n = f.2 (omega arith) in
    let e : suc (suc k) - 1 ≡ suc k = omega arith in
    let q : 10 ^ suc k ≤ n = rw e at p in
    let r : 10 ^ 1 ≤ 10 ^ suc k = pow-le-pow_right {n = 10} (omega arith) {i = 1} {j = suc k} (omega arith) in
    omega arith)

fewer : (k n : ℕ) → IsDigitCount 10 1 n (suc k) → 10 ≤ n → IsDigitCount 10 1 (n / 10) k
fewer zero n f h = absurd (let p : n < 10 ^ 1 = f.1 in omega arith)
fewer (suc k) n f h = (
  omega arith,
  (div-lt_iff_lt-mul {k = 10} (omega arith)).1 (rw (pow-suc 10 (suc k)) at f.1),
  λ l. (le-div_iff_mul-le {k = 10} (omega arith)).1 (tenth l),
)
  where
    tenth : 1 < suc k → 10 ^ (suc k - 1) * 10 ≤ n
    tenth l =
        let p : 10 ^ (suc (suc k) - 1) ≤ n = f.2 (omega arith) in
        let e : suc (suc k) - 1 ≡ suc (suc k - 1) = omega arith in
        rw (sym (pow-suc 10 (suc k - 1))) (rw e at p)

digits-numeral_in : (most k n : ℕ) → n < most → IsDigitCount 10 1 n k → last_digits 10 k n ≡ numeral_in most n
digits-numeral_in zero k n h f = absurd (omega arith)
digits-numeral_in (suc most) zero n h f = absurd (omega (arith, f.0))
digits-numeral_in (suc most) (suc k) n h f =
    cases (ltb n 10)
    (λ t. let l : n < 10 = ltb-true n 10 t in
    let z : k ≡ 0 = one-digit k n f l in
    let m : n % 10 ≡ n = omega arith in
    rw (t, z, m, lt-ltb n 10 l))
    (λ t. let l : 10 ≤ n = ltb-false n 10 t in
    let i : last_digits 10 k (n / 10) ≡ numeral_in most (n / 10) = digits-numeral_in most k (n / 10) (omega arith) (fewer k n f l) in
    rw (t, glyph-digit (n % 10) (omega arith)) (ap (λ (x : List ℕ). x ++ ((48 + n % 10) ∷ [])) i))

-- the fewest digits that hold a number, which `io::decimal` puts
pub digits-numeral : (k n : ℕ) → IsDigitCount 10 1 n k → last_digits 10 k n ≡ numeral n
unfolding numeral
digits-numeral k n f = digits-numeral_in (suc n) k n (omega arith) f

-- at most k digits below 10^k
length-numeral_in : (most k n : ℕ) → n < 10 ^ suc k → length (numeral_in most n) ≤ suc k
length-numeral_in zero k n h = omega arith
length-numeral_in (suc most) zero n h = rw (lt-ltb n 10 h) (omega arith)
length-numeral_in (suc most) (suc k) n h =
    let i : n / 10 < 10 ^ suc k = (div-lt_iff_lt-mul {k = 10} (omega arith)).1 (rw (pow-suc 10 (suc k)) at h) in
    cases (ltb n 10) (λ t. rw t (omega arith)) (λ t. rw t (simp length-append (omega (arith, length-numeral_in most k (n / 10) i))))

pub numeral-length : (n k : ℕ) → n < 10 ^ suc k → length (numeral n) ≤ suc k
unfolding numeral
numeral-length n k h = length-numeral_in (suc n) k n h

pub numeral-length-u64 : (n : ℕ) → n < 18446744073709551616 → length (numeral n) ≤ 20
numeral-length-u64 n h = numeral-length n 19 (omega arith)

-- digits, and nothing else
abbrev pub AllDigits : List ℕ → Type 0
AllDigits [] = Unit
AllDigits (b ∷ bs) = (48 ≤ b) × (b ≤ 57) × AllDigits bs

digits_append : (s t : List ℕ) → AllDigits s → AllDigits t → AllDigits (s ++ t)
digits_append [] t a b = b
digits_append (x ∷ s) t a b = (a.0, a.1, digits_append s t a.2 b)

all_digits : (most n : ℕ) → AllDigits (numeral_in most n)
all_digits zero n = tt
all_digits (suc most) n =
    cases (ltb n 10)
    (λ t. let l : n < 10 = ltb-true n 10 t in rw t (omega arith, omega arith, tt))
    (λ t. rw t (digits_append (numeral_in most (n / 10)) ((48 + n % 10) ∷ []) (all_digits most (n / 10)) (omega arith, omega arith, tt)))

pub numeral-digits : (n : ℕ) → AllDigits (numeral n)
unfolding numeral
numeral-digits n = all_digits (suc n) n

-- a number is read back, whatever digits follow
read-digit : (most m d : ℕ) (rest : List ℕ) → d < 10 → 10 * m + d ≤ most → read_from most m ((48 + d) ∷ rest) ≡ read_from most (10 * m + d) rest
read-digit most m d rest h l =
    let e : 48 + d - 48 ≡ d = omega arith in
    rw (le-ltb (48 + d) 48 (omega arith), le-ltb 57 (48 + d) (omega arith), e, le-ltb most (10 * m + d) l)

read-numeral_in : (fuel most n : ℕ) (rest : List ℕ) → n < fuel → n ≤ most → read_from most 0 (numeral_in fuel n ++ rest) ≡ read_from most n rest
read-numeral_in zero most n rest h l = absurd (omega arith)
read-numeral_in (suc fuel) most n rest h l =
    cases (ltb n 10)
    (λ t. let e : 10 * 0 + n ≡ n = omega arith in rw t (read-digit most 0 n rest (ltb-true n 10 t) (omega arith) ∙ ap (λ (m : ℕ). read_from most m rest) e))
    (λ t. let o : 10 ≤ n = ltb-false n 10 t in
    let e : 10 * (n / 10) + n % 10 ≡ n = omega arith in
    rw (t, append_assoc)
    (read-numeral_in fuel most (n / 10) ((48 + n % 10) ∷ rest) (omega arith) (omega arith)
    ∙ read-digit most (n / 10) (n % 10) rest (omega arith) (omega arith) ∙ rw e))

pub read_some : (most : ℕ) (x : List ℕ) → (length x ≡ 0 → ⊥) → read_decimal most x ≡ read_from most 0 x
read_some most [] h = absurd (h refl)
read_some most (b ∷ bs) h = refl

some-digits : (most n : ℕ) → length (numeral_in (suc most) n) ≡ 0 → ⊥
some-digits most n = cases (ltb n 10) (λ t. rw t (λ e. omega (arith, e))) (λ t. rw t (simp length-append (λ e. omega (arith, e))))

pub numeral-read : (most n : ℕ) → n ≤ most → read_decimal most (numeral n) ≡ Some n
unfolding numeral
numeral-read most n l =
    let x : List ℕ = numeral_in (suc n) n in
    read_some most x (some-digits n n) ∙ ap (read_from most 0) (sym (append-nil x)) ∙ read-numeral_in (suc n) most n [] (omega arith) l

-- ---- words and bytes, one more

commas-more : (ws : List ℕ) (w : ℕ) → after_commas (ws ++ (w ∷ [])) ≡ after_commas ws ++ ((44 ∷ []) ++ numeral w)
commas-more [] w = rw append-nil
commas-more (v ∷ ws) w = rw (commas-more ws w) (simp append_assoc)

pairs-more : (bs : List ℕ) (b : ℕ) → pairs (bs ++ (b ∷ [])) ≡ pairs bs ++ pair b
pairs-more [] b = rw append-nil
pairs-more (a ∷ bs) b = rw (pairs-more bs b, append_assoc)

module _ (ws : List ℕ) (i : ℕ) (h : i < length ws) where
  pub commas-next : after_commas (take i ws) ++ ((44 ∷ []) ++ numeral (get_or ws i 0)) ≡ after_commas (take (i + 1) ws)
  commas-next = sym (rw (add-one, take-suc ws i 0 h) (commas-more (take i ws) (get_or ws i 0)))

  pub pairs_next : pairs (take i ws) ++ pair (get_or ws i 0) ≡ pairs (take (i + 1) ws)
  pairs_next = sym (rw (add-one, take-suc ws i 0 h) (pairs-more (take i ws) (get_or ws i 0)))

pub no_words : (ws : List ℕ) → length ws ≡ 0 → [] ≡ numerals ws
no_words [] h = refl
no_words (w ∷ ws) h = absurd (omega (arith, h))

-- the part of the words after the first
pub some_words : (ws : List ℕ) → (length ws ≡ 0 → ⊥) → numeral (get_or ws 0 0) ++ after_commas (take (length ws - 1) (drop 1 ws)) ≡ numerals ws
some_words [] h = absurd (h refl)
some_words (w ∷ ws) h = let e : suc (length ws) - 1 ≡ length ws = omega arith in rw (e, take-length)

-- a byte has two digits, which `io::hex` puts
two_digits : (b k : ℕ) → b < 256 → IsDigitCount 16 2 b k → 2 < k → ⊥
two_digits b k s f over =
    let p : 16 ^ (k - 1) ≤ b = f.2 over in
    let q : 16 ^ 2 ≤ 16 ^ (k - 1) = pow-le-pow_right {n = 16} (omega arith) {i = 2} {j = k - 1} (omega arith) in
    omega arith

pub digits-pair : (b k : ℕ) → b < 256 → IsDigitCount 16 2 b k → last_digits 16 k b ≡ pair b
unfolding pair
digits-pair b k s f =
    let u : k ≤ 2 = le_of_suc-le-suc (lt_of_not-le (two_digits b k s f)) in
    let e : k ≡ 2 = omega (arith, f.0) in
    ap (λ (m : ℕ). last_digits 16 m b) e

-- bytes are read back
glyph-value : (d : ℕ) → d < 16 → hex_value (hex_digit_ascii d) ≡ Some d
glyph-value d h =
    cases (ltb d 10)
    (λ t. let l : d < 10 = ltb-true d 10 t in
    let e : 48 + d - 48 ≡ d = omega arith in
    rw (t, le-ltb (48 + d) 48 (omega arith), le-leb (48 + d) 57 (omega arith), e))
    (λ t. let l : 10 ≤ d = ltb-false d 10 t in
    let e : 87 + d - 87 ≡ d = omega arith in
    rw (t, le-ltb (87 + d) 48 (omega arith), lt-leb (87 + d) 57 (omega arith), le-ltb (87 + d) 65 (omega arith), lt-leb (87 + d) 70 (omega arith))
    (rw (le-ltb (87 + d) 97 (omega arith), le-leb (87 + d) 102 (omega arith), e)))

read-pair : (b : ℕ) (rest : List ℕ) → b < 256 → hex_bytes (pair b ++ rest) ≡ b ∷ hex_bytes rest
unfolding pair
read-pair b rest h =
    let high : b / 16 % 16 < 16 = omega arith in
    let low : b % 16 < 16 = omega arith in
    let e : 16 * (b / 16 % 16) + b % 16 ≡ b = omega arith in
    rw (glyph-value (b / 16 % 16) high, glyph-value (b % 16) low, e)

pub pairs-read : (bs : List ℕ) → AllByRecursion (λ (b : ℕ). b < 256) bs → hex_bytes (pairs bs) ≡ bs
pairs-read [] h = refl
pairs-read (b ∷ bs) h = read-pair b (pairs bs) h.0 ∙ ap (λ (l : List ℕ). b ∷ l) (pairs-read bs h.1)
