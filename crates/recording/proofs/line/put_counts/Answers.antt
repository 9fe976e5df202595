-- `line::put_counts` meets its contract: four pieces. Assumes nothing.
use mathlib.Core.List.{append_assoc}
use Rattle.pieces.specs.Laws.{wrote_then, wrote_as}
use Rattle.recording.specs.Replay.{last_line}
use Rattle.recording.proofs.line.put_counts.Goals as goal

pub returns : goal.returns
unfolding last_line
returns c = wrote_as (simp append_assoc) (wrote_then (wrote_then (wrote_then c.put_number-end.ensures c.put-end.ensures) c.put_number-end-2.ensures) c.put.ensures)
