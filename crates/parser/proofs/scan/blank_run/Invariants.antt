-- `scan::blank_run` meets its contract: the run from `at` ends where the run from each place passed does. Assumes nothing.
use Rattle.std.proofs.Common.{◌≡◌, ◌-◌, length}
use Rattle.cel_text.specs.Byte.{blank}
use Rattle.parser.specs.Run.{end_of}
use Rattle.parser.proofs.scan.blank_run.Given as goal

abbrev pub invariant-loop-end : goal.invariant-loop-end
invariant-loop-end l = end_of blank l.text l.fn.at.0 ≡ end_of blank l.text l.end.0

abbrev pub decreases-loop-end : goal.decreases-loop-end
decreases-loop-end l = length l.text - l.end.0
