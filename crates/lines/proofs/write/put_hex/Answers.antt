-- `write::put_hex` meets its contract: the bytes before this one are written. Assumes nothing.
use Rattle.pieces.specs.Laws.{wrote_then, wrote_as}
use Rattle.lines.specs.Laws.{pairs_next}
use Rattle.lines.proofs.write.put_hex.Goals as goal

pub loop-b-preserved : goal.loop-b-preserved
loop-b-preserved c = wrote_as (pairs_next c.args.row.now c.loop-b.b-index c.loop-b-test.true) (wrote_then c.loop-b.invariant c.put_byte-end.ensures)
