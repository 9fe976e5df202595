-- `has` meets its contract: the class is that of the arm, and below 128 is the last one's. Assumes nothing.
use Rattle.cel_text.specs.Byte.{ascii}
use Rattle.parser.proofs.scan.has.Goals as goal

pub returns-in-Ascii : goal.returns-in-Ascii
unfolding ascii
returns-in-Ascii c = rw c.in-Ascii.is
