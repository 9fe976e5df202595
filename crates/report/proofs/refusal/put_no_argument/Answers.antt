-- `refusal::put_no_argument` meets its contract: its pieces are those of the definition. Assumes nothing.
use Rattle.pieces.specs.Laws.{wrote_then}
use Rattle.report.specs.Refusal.{no_argument_text}
use Rattle.report.proofs.refusal.put_no_argument.Goals as goal

pub returns : goal.returns
unfolding no_argument_text
returns c = wrote_then c.say-end.ensures c.put_instead.ensures
