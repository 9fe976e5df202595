-- `node::bracket` meets its contract: what stands before the place is passed, and the brackets in it are counted. Assumes nothing.
use mathlib.Core.Path.{◌≡◌}
use Prim.Native.Nat.{◌+◌}
use lib.ListN.{drop}
use Rattle.report.specs.Node.{bracket_at}
use Rattle.report.proofs.node.bracket.Given as goal

abbrev pub invariant-loop-i : goal.invariant-loop-i
invariant-loop-i l = bracket_at l.text l.before ≡ l.i + bracket_at (drop l.i l.text) l.left
