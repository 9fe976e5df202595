-- Runs of a class of bytes, as the contracts of `scan` cite them. Assumes nothing.
use Rattle.std.specs.Prelude.{◌≡◌, ℕ, ◌+◌, ◌<◌, ◌≤◌, Bool, ◌&&◌, ◌||◌, length, drop, nat_le, slice_index}
use Rattle.cel_text.specs.Byte.{Text, blank, ident_byte, ascii, lead}
use Rattle.parser.specs.Set.{string_set}
use Rattle.parser.specs.declared.scan.Class.{Class}
use Rattle.parser.specs.declared.scan.Class.TheVariants.{Blank, Ident, StringByte, Ascii}

abbrev pub class_of : Class → ℕ → Bool
class_of Blank = blank
class_of Ident = ident_byte
class_of StringByte = string_set
class_of Ascii = ascii

-- the two classes that identifiers and strings share
abbrev pub digit : ℕ → Bool
digit b = nat_le 48 b && nat_le b 57

abbrev pub letter : ℕ → Bool
letter b = nat_le 65 b && nat_le b 90 || nat_le 97 b && nat_le b 122

-- where the run of bytes of one class ends that begins at place p of x
abbrev pub end_of : (ℕ → Bool) → Text → ℕ → ℕ
end_of f x p = p + lead f (drop p x)

-- every byte from place p up to place q is a space, and q is within the text
abbrev pub Spaces : Text → (p q : ℕ) → Type 0
Spaces x p q = (p ≤ q) × (q ≤ length x) × ((i : ℕ) → p ≤ i → i < q → slice_index x i ≡ 32)

-- blanks from place p on, an identifier with these ends, and blanks up to `end`
pub record NamedAt (x : Text) (p from to end : ℕ) : Type 0 where
  pub begins : from ≡ end_of blank x p
  pub stops : to ≡ end_of ident_byte x from
  pub ends : end ≡ end_of blank x to
