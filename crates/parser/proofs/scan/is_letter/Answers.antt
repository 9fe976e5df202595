-- `scan::is_letter` meets its contract: with bit 5 set a letter is a small one, and nothing else is. Assumes nothing.
use Rattle.std.proofs.Common.{sym, ◌∙◌, arith, le-leb}
use lib.Bits.{bit_or}
use borrow.Author.Tests.{lt-leb}
use Rattle.parser.proofs.Classes.{letter-folded}
use Rattle.parser.proofs.scan.is_letter.Goals as goal

pub returns-then-small-lt97 : goal.returns-then-small-lt97
returns-then-small-lt97 c = sym (letter-folded c.args.b (omega arith) ∙ rw (lt-leb 97 (bit_or c.args.b 32) c.if-small-lt97.true))

pub returns : goal.returns
returns c = sym (letter-folded c.args.b (omega arith) ∙ rw (le-leb 97 (bit_or c.args.b 32) c.if-small-lt97.false))
