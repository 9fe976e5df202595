-- `drain` meets its contract: each turn of its loop is a step of the definition's. Assumes nothing.
use Prim.Native.Nat.{◌-◌}
use lib.ListN.{length}
use Rattle.recording.proofs.Turns.{Going}
use Rattle.recording.proofs.drain.Given as goal

abbrev pub invariant-loop-out : goal.invariant-loop-out
invariant-loop-out l = Going l.initial.turn.state l.held l.ended l.initial.out l.out l.turn

abbrev pub decreases-loop-out : goal.decreases-loop-out
decreases-loop-out l = length l.held - l.turn.used
