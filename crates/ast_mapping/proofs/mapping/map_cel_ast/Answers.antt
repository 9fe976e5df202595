-- `mapping::map_cel_ast` meets its contract: the root, then its first argument. Assumes nothing.
use mathlib.Core.Path.{refl, sym}
use Rattle.cel_policy.specs.Mapping.{mapping}
use Rattle.ast_mapping.specs.declared.tree.TreeNode.{TreeNode}
use Rattle.ast_mapping.proofs.Parts.{stops, goes_on, refuses, small, bare, argument-held, with-argument}
use Rattle.ast_mapping.proofs.mapping.map_cel_ast.Goals as goal

pub returns-in_err-validate_node : goal.returns-in_err-validate_node
unfolding mapping
returns-in_err-validate_node c = stops _ c.in_err-validate_node.ensures c.from_residual.ensures.1

pub returns-then-row-eq1 : goal.returns-then-row-eq1
unfolding mapping
returns-then-row-eq1 c =
    let e : TreeNode = record { text = c.args.text; table = c.args.table; number = record { 0 = 0 }; held = c.requires } in
    goes_on _ c.in_ok-validate_node.ensures (rw (sym (bare e c.row.ensures c.if-row-eq1.true)) (refuses c.refused.ensures refl (small e)))

pub invariant_of-arguments : goal.invariant_of-arguments
invariant_of-arguments c =
    let e : TreeNode = record { text = c.args.text; table = c.args.table; number = record { 0 = 0 }; held = c.requires } in
    record { held = argument-held e c.row.ensures c.if-row-eq1.false }

pub returns : goal.returns
unfolding mapping
returns c =
    let e : TreeNode = record { text = c.args.text; table = c.args.table; number = record { 0 = 0 }; held = c.requires } in
    goes_on _ c.in_ok-validate_node.ensures (rw (sym (with-argument e c.row.ensures c.if-row-eq1.false)) c.validate_arguments.ensures)
