-- `refusal::put_wrong` meets its contract: its pieces are those of the definition. Assumes nothing.
use Rattle.pieces.specs.Laws.{wrote_then}
use Rattle.report.specs.Refusal.{wrong_text}
use Rattle.report.proofs.refusal.put_wrong.Goals as goal

pub returns : goal.returns
unfolding wrong_text
returns c =
    rw (← c.found.ensures) (wrote_then c.say-end.ensures (wrote_then c.say-end-2.ensures (wrote_then c.say-end-3.ensures c.put_instead.ensures)))
