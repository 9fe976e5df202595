-- `mapping::string_list` meets its contract: a lookup, and a check of what it found. Assumes nothing.
use mathlib.Core.Path.{sym}
use Rattle.cel_policy.specs.Mapping.{present, list_at}
use Rattle.ast_mapping.proofs.Parts.{missing, halts, listed}
use Rattle.ast_mapping.proofs.mapping.string_list.Goals as goal

pub returns-in_default : goal.returns-in_default
unfolding list_at present
returns-in_default c = rw (sym c.in_default.ensures.found) (missing c.args.object.now c.refused.ensures)

pub returns-in_err-validate_string_array : goal.returns-in_err-validate_string_array
unfolding list_at present
returns-in_err-validate_string_array c = rw (sym c.in-Some.ensures.found) (halts c.in_err-validate_string_array.ensures c.from_residual.ensures.1)

pub returns : goal.returns
unfolding list_at present
returns c = rw (sym c.in-Some.ensures.found) (listed c.in-Some.list c.args.name c.in-Some.ensures.same c.in_ok-validate_string_array.ensures)
