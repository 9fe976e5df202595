-- What is shown, and what a page says of its own, is legible whatever the bytes are. Assumes nothing.
use Rattle.std.specs.Prelude.{◌≡◌, refl, ℕ, zero, suc, ◌/◌, ◌%◌, ◌+◌, ◌≤◌, ◌<◌, Bool, true, false, cond, ◌||◌, [], ◌∷◌, replicate, T, eqb, ltb}
use Rattle.std.proofs.Common.{mod-lt, arith, ltb-true, le-leb, ne_eqb}
use Rattle.std.specs.List.{flat_map}
use Rattle.io.specs.Digits.{hex_digit_ascii}
use Rattle.cel_text.specs.Byte.{Text, over, byte}
use Rattle.lines.specs.Texts.{numeral, pair}
use Rattle.lines.specs.Laws.{AllDigits, numeral-digits}
use Rattle.cel_text.proofs.Laws.Class.{run-append}
use Rattle.page.specs.Page.{plain, shown_byte, said_byte, shown, said, legible_byte, Legible}

-- two texts, of which one is chosen
pub legible-cond : (t : Bool) {x y : Text} → Legible x → Legible y → Legible (cond t x y)
legible-cond true l r = l
legible-cond false l r = r

printable : (b : ℕ) → 32 ≤ b → b ≤ 126 → T (legible_byte b)
unfolding legible_byte
printable b l h = rw (ne_eqb b 10 (λ e. omega arith), le-leb 32 b l, le-leb b 126 h) tt

-- a digit below 16, decimal or hexadecimal
glyph-legible : (d : ℕ) → d < 16 → T (legible_byte (hex_digit_ascii d))
glyph-legible d h = at (ltb d 10) refl
  where
    at : (t : Bool) → ltb d 10 ≡ t → T (legible_byte (cond t (48 + d) (87 + d)))
    at true e = printable (48 + d) (omega arith) (omega (arith, ltb-true d 10 e))
    at false e = printable (87 + d) (omega arith) (omega arith)

pair-legible : (b : ℕ) → Legible (pair b)
unfolding pair
pair-legible b = byte (hex (b / 16)) (byte (hex b) over)
  where
    hex : (n : ℕ) → T (legible_byte (hex_digit_ascii (n % 16)))
    hex n = glyph-legible (n % 16) (mod-lt n {m = 16} (omega arith))

or-true : (t : Bool) → T (t || true)
or-true true = tt
or-true false = tt

plain-legible : (b : ℕ) {y : Text} → Legible y → Legible (cond (plain b) (b ∷ []) y)
unfolding legible_byte
plain-legible b {y} l = at (plain b) refl
  where
    at : (t : Bool) → plain b ≡ t → Legible (cond t (b ∷ []) y)
    at true e = byte {b = b} (rw e (or-true (eqb b 10))) over
    at false e = l

pub shown_byte-legible : (b : ℕ) → Legible (shown_byte b)
unfolding shown_byte legible_byte
shown_byte-legible b =
    legible-cond (eqb b 9) (byte tt (byte tt over))
    (legible-cond (eqb b 10) (byte tt (byte tt over))
    (legible-cond (eqb b 13) (byte tt (byte tt over))
    (legible-cond (eqb b 92) (byte tt (byte tt over))
    (plain-legible b
    (byte tt (byte tt (pair-legible b)))))))

digits-legible : (x : Text) → AllDigits x → Legible x
digits-legible [] d = over
digits-legible (b ∷ bs) d = byte {b = b} (printable b (omega (arith, d.0)) (omega (arith, d.1))) (digits-legible bs d.2)

said_byte-legible : (n b : ℕ) → Legible (said_byte n b)
unfolding said_byte legible_byte
said_byte-legible n b = legible-cond (eqb b 10) (byte tt over) (legible-cond (eqb b 35) (digits-legible (numeral n) (numeral-digits n)) (shown_byte-legible b))

flat-legible : (f : ℕ → Text) → ((b : ℕ) → Legible (f b)) → (x : Text) → Legible (flat_map f x)
flat-legible f l [] = over
flat-legible f l (b ∷ bs) = run-append (l b) (flat-legible f l bs)

pub shown-legible : (x : Text) → Legible (shown x)
unfolding shown
shown-legible x = flat-legible shown_byte shown_byte-legible x

pub said-legible : (words : Text) (n : ℕ) → Legible (said words n)
unfolding said
said-legible words n = flat-legible (said_byte n) (said_byte-legible n) words

pub spaces-legible : (n : ℕ) → Legible (replicate n 32)
unfolding legible_byte
spaces-legible zero = over
spaces-legible (suc n) = byte tt (spaces-legible n)
