-- The set of string bytes that this program reads with: the one of SPEC.md. Assumes nothing.
use Rattle.std.specs.Prelude.{ℕ, Bool}
use Rattle.cel_text.specs.Byte.{string_byte}

abbrev pub string_set : ℕ → Bool
string_set = string_byte
