-- `window::Mark::put_place` meets its contract: its pieces are those of the definition. Assumes nothing.
use Rattle.pieces.specs.Laws.{wrote_then}
use Rattle.report.specs.Window.{place_text}
use Rattle.report.proofs.window.Mark.put_place.Goals as goal

pub returns : goal.returns
unfolding place_text
returns c = rw (← c.spot.ensures) (wrote_then c.say-end.ensures c.put.ensures)
