-- `policy::put_size` meets its contract: its pieces are those of the definition. Assumes nothing.
use Rattle.pieces.specs.Laws.{wrote_then}
use Rattle.report.specs.Policy.{size_text}
use Rattle.report.proofs.policy.put_size.Goals as goal

pub returns : goal.returns
unfolding size_text
returns c = wrote_then c.say-end.ensures c.say.ensures
