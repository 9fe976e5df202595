-- `window::Mark::back` meets its contract: of the bytes before the place, the last first, those that the room reaches are passed. Assumes nothing.
use Rattle.std.proofs.Common.{arith, ◌≡◌, take, length, ap, ◌∙◌}
use mathlib.Core.List.{reverse}
use Rattle.std.proofs.lemmas.Iterator.Adapters.{YieldsList-from_rev_slice}
use Rattle.std.proofs.lemmas.List.{length-reverse}
use lib.Seq.{length-take-le}
use Rattle.report.specs.declared.window.Side.{Side}
use Rattle.report.proofs.Walks.{back-passed, forth-within}
use Rattle.report.proofs.window.Mark.back.Goals as goal

pub overflow_sub-result : goal.overflow_sub-result
overflow_sub-result c =
    let before = take c.args.self.place.0 c.args.self.text.now in
    let e : c.rev.result.iter.rest.now ≡ take c.args.self.place.0 c.args.self.text.now = cc in
    let v = c.pass-passed.ensures.value (reverse before) (YieldsList-from_rev_slice before e).runs in
    let w = forth-within (reverse before) c.args.room 0 0 in
    let long : length (reverse before) ≡ c.args.self.place.0 = length-reverse before ∙ length-take-le c.args.self.place.0 c.args.self.text.now c.args.self.inside in
    omega (arith, ap (λ (s : Side). s.at) v, w, long)

pub returns-clause-value : goal.returns-clause-value
returns-clause-value c =
    let before = take c.args.self.place.0 c.args.self.text.now in
    let e : c.rev.result.iter.rest.now ≡ take c.args.self.place.0 c.args.self.text.now = cc in
    back-passed c.args.self.text.now c.args.self.place.0 c.args.room c.pass-passed.result c.args.self.inside
    (c.pass-passed.ensures.value (reverse before) (YieldsList-from_rev_slice before e).runs)
