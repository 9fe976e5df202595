-- `policy::form` meets its contract: another number has no part in the line. Assumes nothing.
use Rattle.std.proofs.Common.{◌≡◌, rules, refl, sym, ap, arith}
use Rattle.cel_text.specs.Byte.{Text, bytes, ◌⧺◌}
use Rattle.page.specs.Page.{said}
use Rattle.report.specs.Words.{part}
use Rattle.report.specs.Policy.{form_text}
use Rattle.report.proofs.Parts.{part-other}
use Rattle.report.proofs.policy.form.Goals as goal

pub returns-in_default : goal.returns-in_default
unfolding form_text part
returns-in_default c =
    let not_1 : c.args.form ≡ 1 → ⊥ = search rules in
    let not_2 : c.args.form ≡ 2 → ⊥ = search rules in
    let not_3 : c.args.form ≡ 3 → ⊥ = search rules in
    ap (λ (x : Text). said x 0) (sym (part-other (bytes "|Accepted: Skip. Nothing is certified.\n" ⧺ bytes "|Accepted: ResponseOnly. The response is certified, the request is not.\n" ⧺ bytes "|Accepted: Full. The request and the response are certified.\n") 4 c.args.form refl refl (λ l. omega (arith, not_1, not_2, not_3))))
