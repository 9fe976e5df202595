-- `field::part_start` meets its contract: the parts that are left, from where it is, begin where they have to. Assumes nothing.
use Rattle.std.proofs.Common.{sym, ◌∙◌, arith}
use Rattle.lines.proofs.Fields.{part-last, part-next}
use Rattle.lines.proofs.field.part_start.Goals as goal

pub returns-then-end-line-clause-value : goal.returns-then-end-line-clause-value
returns-then-end-line-clause-value c =
    let a = c.args in
    c.if-end-line.true ∙ sym (part-last a.mark a.line.now c.loop.at c.find-end.ensures.value c.loop-test.true c.if-end-line.true) ∙ c.loop.invariant.1

pub loop-preserved : goal.loop-preserved
loop-preserved c =
    let a = c.args in
    let within = c.find-end.ensures.upper_bound c.loop.invariant.0 in (
      omega (arith, within, c.if-end-line.false),
      sym (part-next a.mark a.line.now c.loop.at c.find-end.ensures.value c.loop-test.true within c.if-end-line.false) ∙ c.loop.invariant.1,
    )
