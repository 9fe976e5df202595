-- What a page shows: bytes of a text as letters, and words of its own. Assumes nothing.
use Rattle.std.specs.Prelude.{ℕ, Bool, cond, ◌&&◌, ◌||◌, [], ◌∷◌, eqb, leb}
use Rattle.std.specs.List.{flat_map}
use Rattle.cel_text.specs.Byte.{Text, bytes, ◌⧺◌, Run}
use Rattle.lines.specs.Texts.{numeral, pair}

-- a printable ASCII byte
abbrev pub plain : ℕ → Bool
plain b = leb 32 b && leb b 126

-- a byte as it is shown: tab, line end, return and backslash as pairs, another that is not printable by its value
unfoldable pub shown_byte : ℕ → Text
shown_byte b =
    cond (eqb b 9) (bytes "\\t")
    (cond (eqb b 10) (bytes "\\n")
    (cond (eqb b 13) (bytes "\\r")
    (cond (eqb b 92) (bytes "\\\\")
    (cond (plain b) (b ∷ [])
    (bytes "\\x" ⧺ pair b)))))

-- a byte of a page's own words: a line end is one, and `#` stands for the number n
unfoldable pub said_byte : (n b : ℕ) → Text
said_byte n b = cond (eqb b 10) (10 ∷ []) (cond (eqb b 35) (numeral n) (shown_byte b))

-- a text as it is shown
unfoldable pub shown : Text → Text
shown x = flat_map shown_byte x

-- words, and the number that they speak of
unfoldable pub said : Text → (n : ℕ) → Text
said words n = flat_map (said_byte n) words

-- line ends and printable ASCII bytes alone
unfoldable pub legible_byte : ℕ → Bool
legible_byte b = eqb b 10 || plain b

abbrev pub Legible : Text → Type 0
Legible x = Run legible_byte x
