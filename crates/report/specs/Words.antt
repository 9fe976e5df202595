-- Words by their numbers. Those of one sort stand in a line, separated by bars, in the order of their numbers, which begin at 0. Assumes nothing.
use Rattle.std.specs.Prelude.{ℕ}
use Rattle.std.proofs.Math.Seq.{slice}
use Rattle.cel_text.specs.Byte.{Text, bytes}
use Rattle.lines.specs.Fields.{part_from, part_end}
use Rattle.page.specs.Page.{said}

-- what has this number in a line; nothing where the line has fewer parts
unfoldable pub part : (line : Text) (number : ℕ) → Text
part line number = slice (part_from 124 number line 0) (part_end 124 line (part_from 124 number line 0)) line

-- the same, with n in place of `#`
abbrev pub message : (line : Text) (number n : ℕ) → Text
message line number n = said (part line number) n

-- what a node of this kind is
unfoldable pub found_text : (kind : ℕ) → Text
found_text kind = message (bytes "|a string|an array|an object|a function") kind 0

-- what a node should be, up to the name
unfoldable pub expected_text : (kind : ℕ) → Text
expected_text kind =
    message (bytes "|Expected a string in the array for |Expected an array of strings for |Expected the object |Expected the function ") kind 0
