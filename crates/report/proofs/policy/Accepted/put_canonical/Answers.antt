-- `policy::Accepted::put_canonical` meets its contract: what printing gives is said, or that it gives nothing. Assumes nothing.
use Rattle.std.proofs.Common.{ap, sym, refl, arith}
use lib.Seq.{length-take-le}
use Rattle.cel_text.specs.Byte.{string_byte}
use Rattle.cel_text.specs.Answer.{max_text}
use Rattle.cel_policy.specs.Policy.{numbers}
use Rattle.cel_policy.specs.Answers.{PrintAnswer, find_print, print_answer}
use Rattle.report.proofs.Prints.{text-refused, printed-within, printed-front}
use Rattle.report.proofs.policy.Accepted.put_canonical.Goals as goal

pub returns-then-print-ne-ACCEPTED : goal.returns-then-print-ne-ACCEPTED
unfolding print_answer
returns-then-print-ne-ACCEPTED c =
    let d = c.print_policy-print in
    let p = find_print string_byte (numbers c.args.self.policy) c.args.self.spans.now c.args.self.text.now max_text in
    rw (← text-refused p d.result.refusal (ap (λ (a : PrintAnswer). a.refusal) d.ensures.answer) c.if-print-ne-ACCEPTED.true) c.say.ensures

pub slice_bounds-printed-end : goal.slice_bounds-printed-end
slice_bounds-printed-end c =
    let d = c.print_policy-print in
    omega (arith, printed-within _ _ _ _ _ d.ensures.answer c.if-print-ne-ACCEPTED.false, d.auto.out)

pub slice_bounds-put_printed-end : goal.slice_bounds-put_printed-end
slice_bounds-put_printed-end c =
    let d = c.print_policy-print in
    sym (length-take-le d.result.length d.new.out (omega (arith, printed-within _ _ _ _ _ d.ensures.answer c.if-print-ne-ACCEPTED.false, d.auto.out)))

pub returns : goal.returns
returns c =
    let d = c.print_policy-print in
    rw (← printed-front _ _ _ _ _ d.ensures.answer c.if-print-ne-ACCEPTED.false _ d.new.out refl d.ensures.output) c.put_printed.ensures
