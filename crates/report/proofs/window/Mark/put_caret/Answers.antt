-- `window::Mark::put_caret` meets its contract: its pieces are those of the text between the two sides. Assumes nothing.
use Rattle.pieces.specs.Laws.{wrote_then}
use Rattle.report.specs.Window.{between_text}
use Rattle.report.proofs.Walks.{caret-is}
use Rattle.report.proofs.window.Mark.put_caret.Goals as goal

pub returns : goal.returns
unfolding between_text
returns c =
    let is = caret-is c.args.self.text.now c.args.self.place.0 c.back-near.result c.forth-last.result c.back-first.result in
    let e = is c.back-near.ensures.value c.forth-last.ensures.value c.back-first.ensures.value in
    let m = c.put_margin-end.ensures in
    let p = c.put_part-end.ensures in
    rw (← e) (wrote_then m (wrote_then p (wrote_then c.put_end-end.ensures (wrote_then c.put_spaces-end.ensures c.say.ensures))))
