-- `policy::Accepted::put` meets its contract: its pieces are those of the definition. Assumes nothing.
use Rattle.pieces.specs.Laws.{wrote_then}
use Rattle.report.specs.Policy.{policy_text}
use Rattle.report.proofs.policy.Accepted.put.Goals as goal

pub returns : goal.returns
unfolding policy_text
returns c =
    rw (← c.form.ensures) (wrote_then c.say-end.ensures (wrote_then c.put_lists-end.ensures (wrote_then c.put_size-end.ensures c.put_canonical.ensures)))
