-- `line::put_line` meets its contract: six pieces. Assumes nothing.
use mathlib.Core.List.{append_assoc}
use Rattle.pieces.specs.Laws.{wrote_then, wrote_as}
use Rattle.recording.specs.Replay.{line}
use Rattle.recording.proofs.line.put_line.Goals as goal

pub returns : goal.returns
unfolding line
returns c =
    let three = wrote_then (wrote_then c.put_number-end.ensures c.put_field-end.ensures) c.put_form-end.ensures in
    wrote_as (simp append_assoc) (wrote_then (wrote_then (wrote_then three c.put_field-end-2.ensures) c.put_field-end-3.ensures) c.put.ensures)
