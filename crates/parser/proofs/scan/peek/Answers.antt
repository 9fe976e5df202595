-- `scan::peek` meets its contract: past the end an element is the default. Assumes nothing.
use Rattle.std.proofs.Common.{sym}
use lib.ListN.{get_or-eq_default}
use Rattle.parser.proofs.scan.peek.Goals as goal

pub returns-else-i-text : goal.returns-else-i-text
returns-else-i-text c = sym (get_or-eq_default c.args.text.now 0 c.if-i-text.false)
