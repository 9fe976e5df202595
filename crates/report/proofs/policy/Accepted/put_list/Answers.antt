-- `policy::Accepted::put_list` meets its contract: its pieces are those of the definition. Assumes nothing.
use Rattle.pieces.specs.Laws.{wrote_then}
use Rattle.report.specs.Policy.{list_lines}
use Rattle.report.proofs.policy.Accepted.put_list.Goals as goal

pub returns : goal.returns
unfolding list_lines
returns c = rw (← c.title.ensures) (wrote_then c.say-end.ensures c.put_strings.ensures)
