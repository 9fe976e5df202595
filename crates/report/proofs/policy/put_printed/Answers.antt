-- `policy::put_printed` meets its contract: its pieces are those of the definition. Assumes nothing.
use Rattle.pieces.specs.Laws.{wrote_then}
use Rattle.report.specs.Policy.{canonical_lines}
use Rattle.report.proofs.policy.put_printed.Goals as goal

pub returns : goal.returns
unfolding canonical_lines
returns c = wrote_then c.say-end.ensures (wrote_then c.put-end.ensures c.say.ensures)
