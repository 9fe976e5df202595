-- `scan::run` meets its contract: the run from `at` ends where the run from i does, for each place i passed. Assumes nothing.
use Rattle.std.proofs.Common.{◌≡◌}
use Rattle.parser.specs.Run.{class_of, end_of}
use Rattle.parser.proofs.scan.run.Given as goal

abbrev pub invariant-loop-i : goal.invariant-loop-i
invariant-loop-i l = end_of (class_of l.class) l.text l.at.0 ≡ end_of (class_of l.class) l.text l.i
