-- `mapping::request_lists` meets its contract: the object, then its two lists. Assumes nothing.
use mathlib.Core.Path.{refl}
use Rattle.cel_policy.specs.Mapping.{request_lists}
use Rattle.ast_mapping.proofs.Parts.{stops, goes_on}
use Rattle.ast_mapping.proofs.mapping.request_lists.Goals as goal

pub returns-in_err-headers : goal.returns-in_err-headers
unfolding request_lists
returns-in_err-headers c = goes_on _ c.in_ok-validate_node.ensures (stops _ c.in_err-headers.ensures c.from_residual-in_err-headers.ensures.1)

pub returns-in_err-query : goal.returns-in_err-query
unfolding request_lists
returns-in_err-query c =
    goes_on _ c.in_ok-validate_node.ensures (goes_on _ c.in_ok-headers.ensures (stops _ c.in_err-query.ensures c.from_residual-in_err-query.ensures.1))

pub returns : goal.returns
unfolding request_lists
returns c =
    goes_on _ c.in_ok-validate_node.ensures
    (goes_on _ c.in_ok-headers.ensures
    (goes_on _ c.in_ok-query.ensures (record { is = refl; inside = (c.in_ok-headers.ensures.inside, c.in_ok-query.ensures.inside) })))
