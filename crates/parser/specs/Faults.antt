-- Why reading refuses, in the numbers of SPEC.md. Assumes nothing.
use Rattle.std.specs.Prelude.{ℕ}
use Rattle.parser.specs.declared.Fault.{Fault}
use Rattle.parser.specs.declared.Fault.TheVariants.{TextTooLong, NotAscii, Syntax, TooDeep, TooMany}

abbrev pub number_of : Fault → ℕ
number_of TextTooLong = 2
number_of NotAscii = 3
number_of Syntax = 4
number_of TooDeep = 5
number_of TooMany = 6
