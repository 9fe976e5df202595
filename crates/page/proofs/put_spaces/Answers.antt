-- `put_spaces` meets its contract: each turn is one space more. Assumes nothing.
use Rattle.std.proofs.Common.{ℕ}
use lib.ListN.{replicate-append-replicate}
use Rattle.pieces.specs.Laws.{wrote_then, wrote_as}
use Rattle.page.proofs.put_spaces.Goals as goal

pub loop-preserved : goal.loop-preserved
loop-preserved c = wrote_as (replicate-append-replicate {A = ℕ} c.loop.counter 1 32) (wrote_then c.loop.invariant c.put_plain-end.ensures)
