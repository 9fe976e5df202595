-- `scan::is_digit` meets its contract: one comparison at each end. Assumes nothing.
use Rattle.std.proofs.Common.{le-leb}
use borrow.Author.Tests.{lt-leb}
use Rattle.parser.proofs.scan.is_digit.Goals as goal

pub returns-then-b-lt48 : goal.returns-then-b-lt48
returns-then-b-lt48 c = rw (lt-leb 48 c.args.b c.if-b-lt48.true)

pub returns : goal.returns
returns c = rw (le-leb 48 c.args.b c.if-b-lt48.false)
