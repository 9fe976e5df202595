-- `words::found` meets its contract: another number has no part in the line. Assumes nothing.
use Rattle.std.proofs.Common.{◌≡◌, rules, refl, sym, ap, arith}
use Rattle.cel_text.specs.Byte.{Text, bytes}
use Rattle.page.specs.Page.{said}
use Rattle.report.specs.Words.{part}
use Rattle.report.specs.Words.{found_text}
use Rattle.report.proofs.Parts.{part-other}
use Rattle.report.proofs.words.found.Goals as goal

pub returns-in_default : goal.returns-in_default
unfolding found_text part
returns-in_default c =
    let not_1 : c.args.kind ≡ 1 → ⊥ = search rules in
    let not_2 : c.args.kind ≡ 2 → ⊥ = search rules in
    let not_3 : c.args.kind ≡ 3 → ⊥ = search rules in
    let not_4 : c.args.kind ≡ 4 → ⊥ = search rules in
    ap (λ (x : Text). said x 0) (sym (part-other (bytes "|a string|an array|an object|a function") 5 c.args.kind refl refl (λ l. omega (arith, not_1, not_2, not_3, not_4))))
