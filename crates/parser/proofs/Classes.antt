-- The two classes that hold every letter, every digit and one byte more; and letters, told from the bytes with bit 5 set. Assumes
-- nothing.
use Rattle.std.proofs.Common.{◌≡◌, ℕ, zero, suc, ◌<◌, Bool, true, false, cond, not, ◌&&◌, ◌||◌, eqb, leb, sym, refl, subst, ⊎_elim, le_of_suc-le-suc, not-suc-le-zero, eq-or-lt_of_le, arith, ne_eqb}
use lib.Bits.{bit_or}
use Rattle.cel_text.specs.Byte.{blank, alphanumeric, ident_byte, string_byte}
use Rattle.cel_text.proofs.Laws.Class.{both_true}
use Rattle.parser.specs.Set.{string_set}
use Rattle.parser.specs.Run.{letter, digit}

pub space-blank : blank 32 ≡ true
unfolding blank
space-blank = refl

pub blank-zero : blank 0 ≡ false
unfolding blank
blank-zero = refl

-- past the space there is no blank
pub past-blank : (b : ℕ) → 32 < b → blank b ≡ false
unfolding blank
past-blank b h = rw (ne_eqb b 32 (λ e. omega (arith, e)), ne_eqb b 9 (λ e. omega (arith, e)), ne_eqb b 10 (λ e. omega (arith, e)), ne_eqb b 13 (λ e. omega (arith, e)))

-- letters and digits are what both classes share
module _ (b : ℕ) where
  shared : (d u l : Bool) → d || u || l ≡ (u || l) || d
  shared true true l = refl
  shared true false true = refl
  shared true false false = refl
  shared false true true = refl
  shared false true false = refl
  shared false false true = refl
  shared false false false = refl

  letters-digits : alphanumeric b ≡ letter b || digit b
  unfolding alphanumeric
  letters-digits = shared (leb 48 b && leb b 57) (leb 65 b && leb b 90) (leb 97 b && leb b 122)

  pub ident-tests : ident_byte b ≡ letter b || digit b || eqb b 95
  unfolding ident_byte
  ident-tests = rw letters-digits

  pub string-tests : string_set b ≡ letter b || digit b || eqb b 45
  unfolding string_byte
  string-tests = rw letters-digits

-- whether all numbers below n pass a test
abbrev all : (ℕ → Bool) → ℕ → Bool
all f zero = true
all f (suc n) = f n && all f n

all-at : (f : ℕ → Bool) (n : ℕ) → all f n ≡ true → (b : ℕ) → b < n → f b ≡ true
all-at f zero h b l = absurd (not-suc-le-zero l)
all-at f (suc n) h b l =
    let w = both_true (f n) (all f n) h in
    ⊎_elim (λ e. subst (λ (k : ℕ). f k ≡ true) (sym e) w.0) (λ m. all-at f n w.1 b m) (eq-or-lt_of_le (le_of_suc-le-suc l))

abbrev alike : Bool → Bool → Bool
alike a b = cond a b (not b)

alike_same : (a b : Bool) → alike a b ≡ true → a ≡ b
alike_same true b h = sym h
alike_same false true h = h
alike_same false false h = refl

abbrev folded : ℕ → Bool
folded b = leb 97 (bit_or b 32) && leb (bit_or b 32) 122

-- a byte is a letter exactly where it is a small one with bit 5 set; byte by byte
pub letter-folded : (b : ℕ) → b < 256 → letter b ≡ folded b
letter-folded b l = sym (alike_same (folded b) (letter b) (all-at (λ k. alike (folded k) (letter k)) 256 refl b l))
