-- The most that a request gives or is lent: bytes of a text or an output, words of a table. Assumes nothing.
use Rattle.std.specs.Prelude.{ℕ}

abbrev pub most_bytes : ℕ
most_bytes = 16384

abbrev pub most_words : ℕ
most_words = 4096
