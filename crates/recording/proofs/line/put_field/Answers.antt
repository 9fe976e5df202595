-- `line::put_field` meets its contract: two pieces. Assumes nothing.
use Rattle.pieces.specs.Laws.{wrote_then}
use Rattle.recording.proofs.line.put_field.Goals as goal

pub returns : goal.returns
returns c = rw (← c.from.ensures) (wrote_then c.put-end.ensures c.put_number.ensures)
