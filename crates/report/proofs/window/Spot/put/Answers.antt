-- `window::Spot::put` meets its contract: in the first line nothing is put, else two pieces. Assumes nothing.
use borrow.Author.Tests.{eq-eqb, ne_eqb}
use Rattle.pieces.specs.Laws.{wrote_none, wrote_then}
use Rattle.report.specs.Window.{spot_text}
use Rattle.report.proofs.window.Spot.put.Goals as goal

pub returns-then-self-eq1 : goal.returns-then-self-eq1
unfolding spot_text
returns-then-self-eq1 c =
    rw (eq-eqb c.args.self.line 1 c.if-self-eq1.true) (wrote_none c.args.out.now c.args.at)

pub returns : goal.returns
unfolding spot_text
returns c =
    rw (ne_eqb c.args.self.line 1 c.if-self-eq1.false) (wrote_then c.say-end.ensures c.say.ensures)
