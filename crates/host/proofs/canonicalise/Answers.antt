-- `canonicalise` meets its contract: what was read, and then what was printed. Assumes nothing.
use Rattle.host.proofs.Numbers.{read_small, host-unread, print-small, host-printed, host-unprinted}
use native.Mathlib.Omega.{arith}
use Rattle.host.proofs.canonicalise.Goals as goal

pub overflow_add-result : goal.overflow_add-result
overflow_add-result c =
    let a = c.args in
    record { fits = omega (arith, read_small a.text.now a.out.now c.read_over-read.ensures.answer) }

pub returns-then-answer-ne-ACCEPTED : goal.returns-then-answer-ne-ACCEPTED
returns-then-answer-ne-ACCEPTED c =
    let a = c.args in
    let both = host-unread a.text.now a.out.now c.read_over-read.ensures.answer c.if-answer-ne-ACCEPTED.true in
    record { answer = both.0; output = both.1 }

pub overflow_add-result-then-printed-ne-ACCEPTED : goal.overflow_add-result-then-printed-ne-ACCEPTED
overflow_add-result-then-printed-ne-ACCEPTED c =
    let a = c.args in
    let r = c.read_over-read.ensures in
    let e = c.if-answer-ne-ACCEPTED in
    let p = c.print_any-printed.ensures in
    record { fits = omega (arith, print-small a.text.now a.out.now r.answer e.false r.spans p.answer p.output) }

pub returns-then-printed-ne-ACCEPTED : goal.returns-then-printed-ne-ACCEPTED
returns-then-printed-ne-ACCEPTED c =
    let a = c.args in
    let r = c.read_over-read.ensures in
    let e = c.if-answer-ne-ACCEPTED in
    let p = c.print_any-printed.ensures in
    let both = host-unprinted a.text.now a.out.now r.answer e.false r.spans p.answer p.output c.if-printed-ne-ACCEPTED.true in
    record { answer = both.0; output = both.1 }

pub returns : goal.returns
returns c =
    let a = c.args in
    let r = c.read_over-read.ensures in
    let e = c.if-answer-ne-ACCEPTED in
    let p = c.print_any-printed.ensures in
    let both = host-printed a.text.now a.out.now r.answer e.false r.spans p.answer p.output c.if-printed-ne-ACCEPTED.false in
    record { answer = both.0; output = both.1 }
