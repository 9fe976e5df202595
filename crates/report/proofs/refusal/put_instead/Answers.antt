-- `refusal::put_instead` meets its contract: its pieces are those of the definition. Assumes nothing.
use Rattle.pieces.specs.Laws.{wrote_then}
use Rattle.report.specs.Refusal.{instead_text}
use Rattle.report.proofs.refusal.put_instead.Goals as goal

pub returns : goal.returns
unfolding instead_text
returns c =
    rw (← c.expected.ensures) (wrote_then c.say-end.ensures (wrote_then c.spell-end.ensures c.say.ensures))
