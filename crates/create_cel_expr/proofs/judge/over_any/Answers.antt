-- `judge::over_any` meets its contract: 20, then 21; where there is no fault each string lies inside. Assumes nothing.
use Rattle.cel_policy.specs.Policy.{numbers}
use Rattle.create_cel_expr.proofs.Judgings.{judged-inside}
use Rattle.create_cel_expr.proofs.judge.over_any.Goals as goal

-- from 21 alone: a wrong test of the shape leaves it true
pub invariant_of-result-clause-inside : goal.invariant_of-result-clause-inside
invariant_of-result-clause-inside c =
    let a = c.args in
    judged-inside (numbers a.policy) a.spans.now a.text.now c.strings.ensures c.in_ok-all_inside.ensures
