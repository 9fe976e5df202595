-- Bytes and their classes. “A text is a list of bytes.” A byte is a number. Assumes nothing.
use Rattle.std.specs.Prelude.{◌≡◌, ℕ, suc, Bool, false, cond, ◌&&◌, ◌||◌, List, [], ◌∷◌, ◌++◌, T, leb, ltb, eqb}
use Prim.Native.Char.{code}
use Prim.Native.String.{String, [] as empty, ◌∷◌ as ◌then◌}

abbrev pub Text : Type 0
Text = List ℕ

-- texts one after the other, bracketed to the right
infixr 66 ◌⧺◌
abbrev pub ◌⧺◌ : Text → Text → Text
x ⧺ y = x ++ y

-- the bytes of a quoted text
abbrev pub bytes : String → Text
bytes empty = []
bytes (c then s) = code c ∷ bytes s

-- “A blank is a space (32), a tab (9), a line feed (10) or a carriage return (13).”
unfoldable pub blank : ℕ → Bool
blank b = eqb b 32 || eqb b 9 || eqb b 10 || eqb b 13

-- “An alphanumeric byte is a digit (48 to 57), a capital letter (65 to 90) or a small letter (97 to 122).”
unfoldable pub alphanumeric : ℕ → Bool
alphanumeric b = leb 48 b && leb b 57 || leb 65 b && leb b 90 || leb 97 b && leb b 122

-- “An identifier byte is an alphanumeric byte or `_` (95).”
unfoldable pub ident_byte : ℕ → Bool
unfolding alphanumeric
ident_byte b = alphanumeric b || eqb b 95

-- “A string byte is an alphanumeric byte or `-` (45).”
unfoldable pub string_byte : ℕ → Bool
unfolding alphanumeric
string_byte b = alphanumeric b || eqb b 45

-- “An ASCII byte is one below 128.”
unfoldable pub ascii : ℕ → Bool
ascii b = ltb b 128

-- how many bytes of one class x begins with
abbrev pub lead : (ℕ → Bool) → Text → ℕ
lead f [] = 0
lead f (b ∷ bs) = cond (f b) (suc (lead f bs)) 0

-- a run, perhaps empty, of bytes of one class
pub data Run (f : ℕ → Bool) : Text → Type 0 where
  over : Run f []
  byte : {b : ℕ} {bs : Text} → T (f b) → Run f bs → Run f (b ∷ bs)

-- “blanks = { blank } ;”
abbrev pub Blanks : Text → Type 0
Blanks x = Run blank x

-- “An identifier is a run of identifier bytes, and may be empty.”
abbrev pub Identifier : Text → Type 0
Identifier x = Run ident_byte x

abbrev pub quote : ℕ
quote = 34

abbrev pub comma : ℕ
comma = 44

abbrev pub colon : ℕ
colon = 58

-- a set of string bytes that has no quote and no blank: all that the theorems ask of it
pub record Plain (S : ℕ → Bool) : Type 0 where
  pub no_quote : S quote ≡ false
  pub no_blank : (b : ℕ) → T (blank b) → S b ≡ false
