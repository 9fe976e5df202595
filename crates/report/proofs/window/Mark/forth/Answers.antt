-- `window::Mark::forth` meets its contract: of the bytes from the place on, those that the room reaches are passed. Assumes nothing.
use Rattle.std.proofs.Common.{arith, ◌≡◌, drop, length, ◌-◌, ap, ◌∙◌}
use Rattle.std.proofs.lemmas.Iterator.{YieldsList-from_slice}
use lib.ListN.{length-drop}
use lib.Seq.{take_all}
use Rattle.report.specs.declared.window.Side.{Side}
use Rattle.report.proofs.Walks.{forth-passed, forth-within}
use Rattle.report.proofs.window.Mark.forth.Goals as goal

pub overflow_add-result : goal.overflow_add-result
overflow_add-result c =
    let after = drop c.args.self.place.0 c.args.self.text.now in
    let e : c.iter.result.rest.now ≡ drop c.args.self.place.0 c.args.self.text.now = c.iter.ensures.rest ∙ take_all _ after (simp length-drop (omega arith)) in
    let v = c.pass-passed.ensures.value after (YieldsList-from_slice after e).runs in
    let w = forth-within after c.args.room 0 0 in
    let long : length after ≡ length c.args.self.text.now - c.args.self.place.0 = length-drop c.args.self.place.0 c.args.self.text.now in
    omega (arith, ap (λ (s : Side). s.at) v, w, long, c.args.self.inside, c.ranges.self.0)

pub returns-clause-value : goal.returns-clause-value
returns-clause-value c =
    let after = drop c.args.self.place.0 c.args.self.text.now in
    let e : c.iter.result.rest.now ≡ drop c.args.self.place.0 c.args.self.text.now = c.iter.ensures.rest ∙ take_all _ after (simp length-drop (omega arith)) in
    forth-passed c.args.self.text.now c.args.self.place.0 c.args.room c.pass-passed.result (c.pass-passed.ensures.value after (YieldsList-from_slice after e).runs)
