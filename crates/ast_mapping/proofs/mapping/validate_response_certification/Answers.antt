-- `mapping::validate_response_certification` meets its contract: the object, its two lists, then which of them is there. Assumes nothing.
use mathlib.Core.Path.{sym}
use Rattle.cel_text.specs.Table.{Words}
use Rattle.cel_policy.specs.Mapping.{present, response_lists, response_part}
use Rattle.ast_mapping.specs.Steps.{only_as, OnlyIf, list_of, ListIn}
use Rattle.ast_mapping.proofs.Parts.{missing, stops, goes_on, chosen, small, moved}
use Rattle.ast_mapping.proofs.mapping.validate_response_certification.Goals as goal

pub returns-in_default : goal.returns-in_default
unfolding response_part present
returns-in_default c = rw (sym c.in_default.ensures.found) (missing c.args.certification.now c.refused.ensures)

pub returns-in_err-validate_node : goal.returns-in_err-validate_node
unfolding response_part present
returns-in_err-validate_node c = rw (sym c.in-Some.ensures.found) (stops _ c.in_err-validate_node.ensures c.from_residual.ensures.1)

pub returns-in_err-included : goal.returns-in_err-included
unfolding response_part present response_lists
returns-in_err-included c =
    rw (sym c.in-Some.ensures.found)
    (goes_on _ c.in_ok-validate_node.ensures (stops _ c.in_err-included.ensures c.from_residual-in_err-included.ensures.1))

pub returns-in_err-excluded : goal.returns-in_err-excluded
unfolding response_part present response_lists
returns-in_err-excluded c =
    rw (sym c.in-Some.ensures.found)
    (goes_on _ c.in_ok-validate_node.ensures
    (goes_on _ c.in_ok-included.ensures (stops _ c.in_err-excluded.ensures c.from_residual-in_err-excluded.ensures.1)))

pub returns : goal.returns
unfolding response_part present response_lists
returns c =
    let e = c.in-Some.response in
    let i = c.in_ok-included in
    let x = c.in_ok-excluded in
    let one =
    chosen (list_of e.table.now) (ListIn e.table.now) 15 16 e.number.0 i.included x.excluded c.exactly_one.result c.exactly_one.ensures (small e)
    i.ensures.inside x.ensures.inside in
    rw (sym c.in-Some.ensures.found)
    (goes_on _ c.in_ok-validate_node.ensures
    (moved (λ (w : Words). only_as (list_of w)) (λ (w : Words). OnlyIf (ListIn w)) c.in-Some.ensures.same (goes_on _ i.ensures (goes_on _ x.ensures one))))
