-- `value::enter` meets its contract: the tests are the machine's limits, in its order. Assumes nothing.
use Rattle.parser.proofs.Values.{stopped-full, entered}
use Rattle.parser.proofs.value.enter.Goals as goal
use Rattle.parser.proofs.value.enter.Goals.{in-Container+else-left-eq0, in_default}

pub returns-then-node-eq-MAX_NODES : goal.returns-then-node-eq-MAX_NODES
returns-then-node-eq-MAX_NODES c =
    let a = c.args in
    rw c.at-then-node-eq-MAX_NODES.ensures (stopped-full a.at.0 a.node.0 a.left a.opener
    (λ k e z. elim c.match-opener.branch [ in-Container+else-left-eq0 w ↦ w.if-left-eq0.false z | in_default w ↦ let q = w.in_default.is in cc ])
    c.if-node-eq-MAX_NODES.true)

pub returns : goal.returns
returns c =
    let a = c.args in
    entered a.at.0 a.node.0 a.left a.opener
    (λ k e z. elim c.match-opener.branch [ in-Container+else-left-eq0 w ↦ w.if-left-eq0.false z | in_default w ↦ let q = w.in_default.is in cc ])
    c.if-node-eq-MAX_NODES.false c.requires.1
