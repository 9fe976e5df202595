-- `scan::blanks` meets its contract: where the byte is greater than a space the run is empty. Assumes nothing.
use Rattle.std.proofs.Common.{sym, arith}
use Rattle.cel_text.specs.Byte.{blank}
use Rattle.parser.proofs.Runs.{end-stop}
use Rattle.parser.proofs.Classes.{past-blank}
use Rattle.parser.proofs.scan.blanks.Goals as goal

pub returns-then-peek-gt32 : goal.returns-then-peek-gt32
returns-then-peek-gt32 c =
    let a = c.args in
    sym (end-stop blank a.text.now a.at.0 (past-blank _ (omega (arith, c.if-peek-gt32.true, c.peek.ensures))))
