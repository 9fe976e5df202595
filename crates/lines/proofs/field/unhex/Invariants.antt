-- `field::unhex` meets its contract: each pair passed has given its byte, and the other bytes are as lent. Assumes nothing.
use Rattle.lines.proofs.Fields.{Unhexing}
use Rattle.lines.proofs.field.unhex.Given as goal

abbrev pub invariant-loop-i : goal.invariant-loop-i
invariant-loop-i l = Unhexing l.field l.initial.out l.out l.i
