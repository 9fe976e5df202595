-- `refusal::put_no_property` meets its contract: its pieces are those of the definition. Assumes nothing.
use Rattle.pieces.specs.Laws.{wrote_then}
use Rattle.report.specs.Refusal.{no_property_text}
use Rattle.report.proofs.refusal.put_no_property.Goals as goal

pub returns : goal.returns
unfolding no_property_text
returns c =
    rw (← c.owner.ensures) (wrote_then c.spell-end.ensures (wrote_then c.say-end.ensures (wrote_then c.spell-end-2.ensures c.say.ensures)))
