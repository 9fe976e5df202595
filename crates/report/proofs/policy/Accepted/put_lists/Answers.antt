-- `policy::Accepted::put_lists` meets its contract: of Skip nothing is put, of another form a line end and the lists. Assumes nothing.
use Rattle.cel_policy.specs.Policy.{skip}
use borrow.Author.Tests.{eq-eqb, ne_eqb}
use Rattle.pieces.specs.Laws.{wrote_none, wrote_then}
use Rattle.report.specs.Policy.{lists_lines}
use Rattle.report.proofs.policy.Accepted.put_lists.Goals as goal

pub returns-then-self-eq-SKIP : goal.returns-then-self-eq-SKIP
unfolding lists_lines
returns-then-self-eq-SKIP c =
    rw (eq-eqb c.args.self.policy.form skip c.if-self-eq-SKIP.true) (wrote_none c.args.out.now c.args.at)

pub returns : goal.returns
unfolding lists_lines
returns c =
    let f = c.args.self.policy.form in
    let h = c.if-self-eq-SKIP.false in
    let l = c.response-list.ensures in
    let b = c.before_response-first.ensures in
    rw (ne_eqb f skip h, ← l, ← b) (wrote_then c.say-end.ensures (wrote_then c.put_request-end.ensures c.put_list.ensures))
