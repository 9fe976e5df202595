-- `input::read_text` is safe and ends: each turn but the last leaves less room. Assumes nothing.
use Rattle.std.proofs.Common.{length, ◌-◌, ◌≤◌, ◌≡◌}
use Rattle.explain.proofs.input.read_text.Given as goal

abbrev pub invariant-loop-held : goal.invariant-loop-held
invariant-loop-held g l = (l.held ≤ length l.room) × (length l.room ≡ length l.initial.room)

abbrev pub decreases-loop-held : goal.decreases-loop-held
decreases-loop-held g l = length l.initial.room - l.held
