-- `scan::blank_run` meets its contract: the run from `at` ends where the run from each place passed does. Assumes nothing.
use Rattle.std.proofs.Common.{◌≡◌, ℕ, ◌<◌, Bool, true, length, get_or, sym, ap, ◌∙◌, add-one, arith}
use Rattle.cel_text.specs.Byte.{Text, blank}
use Rattle.parser.specs.Run.{end_of}
use Rattle.parser.proofs.Classes.{blank-zero}
use Rattle.parser.proofs.Runs.{class-within, end_more, end-spaces}
use Rattle.parser.proofs.scan.blank_run.Goals as goal

-- a place of a blank lies within the text
inside : (x : Text) (e : ℕ) {b : ℕ} {t : Bool} → b ≡ get_or x e 0 → t ≡ blank b → t ≡ true → (e < length x) × (blank (get_or x e 0) ≡ true)
inside x e p i h =
    let here : blank (get_or x e 0) ≡ true = ap blank (sym p) ∙ sym i ∙ h in
    (class-within blank blank-zero x e here, here)

pub overflow_add-end : goal.overflow_add-end
overflow_add-end c =
    let w = inside c.args.text.now c.loop-end.end.0 c.peek.ensures c.is_blank.ensures c.loop-end-test.true in
    omega arith

pub spaces-end-requires : goal.spaces-end-requires
spaces-end-requires c =
    let w = inside c.args.text.now c.loop-end.end.0 c.peek.ensures c.is_blank.ensures c.loop-end-test.true in
    omega arith

pub loop-end-preserved : goal.loop-end-preserved
loop-end-preserved c =
    let x = c.args.text.now in
    let e = c.loop-end.end.0 in
    let w = inside x e c.peek.ensures c.is_blank.ensures c.loop-end-test.true in
    c.loop-end.invariant ∙ end_more blank x e w.0 w.1 ∙ ap (end_of blank x) (sym (add-one e)) ∙ end-spaces x c.spaces-end.ensures
