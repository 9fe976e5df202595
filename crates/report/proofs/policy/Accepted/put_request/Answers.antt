-- `policy::Accepted::put_request` meets its contract: of Full two lists are put, of another form nothing. Assumes nothing.
use Rattle.cel_policy.specs.Policy.{full}
use borrow.Author.Tests.{eq-eqb, ne_eqb}
use Rattle.pieces.specs.Laws.{wrote_none, wrote_then}
use Rattle.report.specs.Policy.{request_lines}
use Rattle.report.proofs.policy.Accepted.put_request.Goals as goal

pub returns-then-self-ne-FULL : goal.returns-then-self-ne-FULL
unfolding request_lines
returns-then-self-ne-FULL c =
    rw (ne_eqb c.args.self.policy.form full c.if-self-ne-FULL.true) (wrote_none c.args.out.now c.args.at)

pub returns : goal.returns
unfolding request_lines
returns c =
    let f = c.args.self.policy.form in
    rw (eq-eqb f full c.if-self-ne-FULL.false) (wrote_then c.put_list-end.ensures c.put_list.ensures)
