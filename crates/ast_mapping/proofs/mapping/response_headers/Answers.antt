-- `mapping::response_headers` meets its contract: the list object, then the strings in it, where they are. Assumes nothing.
use mathlib.Core.Path.{refl, sym, ◌∙◌}
use Rattle.cel_policy.specs.Mapping.{headers_of, list_of}
use Rattle.ast_mapping.proofs.Parts.{stops, goes_on, listed}
use Rattle.ast_mapping.proofs.mapping.response_headers.Goals as goal

pub returns-in_default : goal.returns-in_default
unfolding list_of
returns-in_default c = rw (sym c.in_default.ensures.found) (record { is = refl; inside = tt })

pub returns-in_err-validate_node : goal.returns-in_err-validate_node
unfolding list_of
returns-in_err-validate_node c = rw (sym c.in-Some.ensures.found) (stops _ c.in_err-validate_node.ensures c.from_residual.ensures.1)

pub returns-in_default-lookup : goal.returns-in_default-lookup
unfolding list_of headers_of
returns-in_default-lookup c =
    rw (sym c.in-Some.ensures.found) (goes_on _ c.in_ok-validate_node.ensures (rw (sym c.in_default-lookup.ensures.found) (record { is = refl; inside = tt })))

pub returns-in_err-validate_string_array : goal.returns-in_err-validate_string_array
unfolding list_of headers_of
returns-in_err-validate_string_array c =
    rw (sym c.in-Some.ensures.found)
    (goes_on _ c.in_ok-validate_node.ensures
    (rw (sym c.in-Some-lookup.ensures.found) (stops _ c.in_err-validate_string_array.ensures c.from_residual-in_err-validate_string_array.ensures.1)))

pub returns : goal.returns
unfolding list_of headers_of
returns c =
    let list = listed c.in-Some-lookup.headers c.args.name (c.in-Some-lookup.ensures.same ∙ c.in-Some.ensures.same) c.in_ok-validate_string_array.ensures in
    rw (sym c.in-Some.ensures.found)
    (goes_on _ c.in_ok-validate_node.ensures (rw (sym c.in-Some-lookup.ensures.found) (goes_on _ list (record { is = refl; inside = list.inside }))))
