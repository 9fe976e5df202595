-- `mapping::validate_arguments` meets its contract: the object, one of two keys, then what stands there. Assumes nothing.
use mathlib.Core.Path.{refl}
use Rattle.cel_policy.specs.Mapping.{validation_args, certification_of}
use Rattle.ast_mapping.specs.declared.mapping.Only.TheVariants.{First, Second}
use Rattle.ast_mapping.specs.Steps.{policy_as, MappedIn}
use Rattle.ast_mapping.proofs.Parts.{stops, goes_on, picked, moved}
use Rattle.ast_mapping.proofs.mapping.validate_arguments.Goals as goal

pub returns-in_err-only : goal.returns-in_err-only
unfolding validation_args
returns-in_err-only c =
    goes_on _ c.in_ok-validate_node.ensures
    (stops _ (picked c.args.arguments.now 11 12 c.lookup.ensures c.lookup-2.ensures c.in_err-only.ensures) c.from_residual-in_err-only.ensures.1)

pub returns-in-First : goal.returns-in-First
unfolding validation_args certification_of
returns-in-First c =
    goes_on _ c.in_ok-validate_node.ensures
    (goes_on _ {a = First c.in-First.field-0} (picked c.args.arguments.now 11 12 c.lookup.ensures c.lookup-2.ensures (rw c.in-First.is at c.in_ok-only.ensures))
    (record { is = refl; inside = tt }))

pub returns-in-Second : goal.returns-in-Second
unfolding validation_args certification_of
returns-in-Second c =
    let only = picked c.args.arguments.now 11 12 c.lookup.ensures c.lookup-2.ensures (rw c.in-Second.is at c.in_ok-only.ensures) in
    goes_on _ c.in_ok-validate_node.ensures (goes_on _ {a = Second c.in-Second.certification} only (moved policy_as MappedIn only.inside c.validate_certification.ensures))
