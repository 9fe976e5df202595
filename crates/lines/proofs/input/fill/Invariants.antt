-- `fill` is safe: each read adds bytes within the buffer. Assumes nothing.
use mathlib.Core.Path.{◌≡◌}
use Prim.Native.Nat.{◌≤◌, ◌-◌}
use lib.ListN.{length}
use Rattle.lines.proofs.input.fill.Given as goal

abbrev pub invariant-loop-held : goal.invariant-loop-held
invariant-loop-held g l = (l.held ≤ length l.input) × (length l.input ≡ length l.initial.input)

abbrev pub decreases-loop-held : goal.decreases-loop-held
decreases-loop-held g l = length l.initial.input - l.held
