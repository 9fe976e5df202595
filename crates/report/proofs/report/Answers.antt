-- `report` meets its contract: what was read is told by what it says of the text. Assumes nothing.
use borrow.Author.Tests.{eq-eqb, ne_eqb}
use mathlib.Core.Path.{ap}
use native.Mathlib.Omega.{arith}
use Rattle.cel_text.specs.Table.{node_words}
use Rattle.cel_policy.specs.Spans.{span_words}
use Rattle.cel_policy.specs.Answers.{PolicyAnswer}
use Rattle.cel_policy.proofs.Laws.Refusals.{policy-refusals}
use Rattle.ast_mapping.specs.Spans.{policy_told}
use Rattle.report.specs.Report.{answer_text}
use Rattle.report.proofs.Prints.{report-is}
use Rattle.report.proofs.report.Goals as goal

pub returns-then-answer-ne-ACCEPTED : goal.returns-then-answer-ne-ACCEPTED
unfolding answer_text
returns-then-answer-ne-ACCEPTED c =
    let d = c.read_policy-read in
    let a = policy_told d.result in
    let is = report-is c.args.text.now d.new.nodes d.new.spans a d.ensures.answer d.ensures.nodes d.ensures.spans in
    rw (← is, ne_eqb d.result.answer.refusal 0 c.if-answer-ne-ACCEPTED.true) c.put_refusal.ensures

pub put_refusal-requires : goal.put_refusal-requires
put_refusal-requires c =
    let r = ap (λ (a : PolicyAnswer). a.answer.refusal) c.read_policy-read.ensures.answer in
    omega (arith, r, policy-refusals node_words span_words c.args.text.now)

pub returns : goal.returns
unfolding answer_text
returns c =
    let d = c.read_policy-read in
    let a = policy_told d.result in
    let is = report-is c.args.text.now d.new.nodes d.new.spans a d.ensures.answer d.ensures.nodes d.ensures.spans in
    rw (← is, eq-eqb d.result.answer.refusal 0 c.if-answer-ne-ACCEPTED.false) c.put.ensures
