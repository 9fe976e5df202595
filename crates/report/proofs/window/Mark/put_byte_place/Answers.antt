-- `window::Mark::put_byte_place` meets its contract: its pieces are those of the definition. Assumes nothing.
use Rattle.pieces.specs.Laws.{wrote_then}
use Rattle.report.specs.Window.{byte_place_text}
use Rattle.report.proofs.window.Mark.put_byte_place.Goals as goal

pub returns : goal.returns
unfolding byte_place_text
returns c = wrote_then c.put_caret-end.ensures c.put_place.ensures
