-- `mapping::validate_certification` meets its contract: the object, then its two parts. Assumes nothing.
use Rattle.cel_policy.specs.Mapping.{certification_parts}
use Rattle.ast_mapping.proofs.Parts.{stops, goes_on, certified-gives}
use Rattle.ast_mapping.proofs.mapping.validate_certification.Goals as goal

pub returns-in_err-request : goal.returns-in_err-request
unfolding certification_parts
returns-in_err-request c = goes_on _ c.in_ok-validate_node.ensures (stops _ c.in_err-request.ensures c.from_residual-in_err-request.ensures.1)

pub returns-in_err-response : goal.returns-in_err-response
unfolding certification_parts
returns-in_err-response c =
    goes_on _ c.in_ok-validate_node.ensures (goes_on _ c.in_ok-request.ensures (stops _ c.in_err-response.ensures c.from_residual-in_err-response.ensures.1))

pub returns : goal.returns
unfolding certification_parts
returns c = goes_on _ c.in_ok-validate_node.ensures (goes_on _ c.in_ok-request.ensures (goes_on _ c.in_ok-response.ensures
    (rw c.certified.ensures (certified-gives c.args.certification.now.table.now c.in_ok-request.request c.in_ok-response.response
    c.in_ok-request.ensures.inside c.in_ok-response.ensures.inside))))
