-- `scan::spaces` meets its contract: the eights passed are spaces, and so are those that the last one begins with. Assumes nothing.
use Rattle.std.proofs.Common.{◌+◌, ◌*◌}
use Rattle.parser.specs.Run.{Spaces}
use Rattle.parser.proofs.scan.spaces.Given as goal

abbrev pub invariant-loop-i : goal.invariant-loop-i
invariant-loop-i l = Spaces l.text l.fn.at.0 (l.fn.at.0 + 8 * l.i)
