-- `window::Mark::spot` meets its contract: line and column go byte by byte, each at most one more than the bytes passed. Assumes nothing.
use mathlib.Core.Path.{◌≡◌}
use Prim.Native.Nat.{◌≤◌, ◌+◌}
use lib.ListN.{drop}
use Rattle.report.specs.Window.{after_bytes}
use Rattle.report.proofs.window.Mark.spot.Given as goal

abbrev pub invariant-loop-b : goal.invariant-loop-b
invariant-loop-b l = (l.spot.line ≤ l.b-index + 1) × (l.spot.column ≤ l.b-index + 1) × (after_bytes l.initial.spot l.b-items ≡ after_bytes l.spot (drop l.b-index l.b-items))
