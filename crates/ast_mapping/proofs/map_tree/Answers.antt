-- `map_tree` meets its contract: a tree of few nodes has few strings, which the span table has room for. Assumes nothing.
use native.Mathlib.Omega.{arith}
use Rattle.ast_mapping.specs.View.{node_at}
use Rattle.ast_mapping.specs.Steps.{mapped_as}
use Rattle.ast_mapping.proofs.Policies.{root-small, mapped-few}
use Rattle.ast_mapping.proofs.map_tree.Goals as goal

pub settle-requires-clause-few : goal.settle-requires-clause-few
settle-requires-clause-few c =
    let w = c.args.nodes.now in
    let few =
    mapped-few (node_at w c.args.text.now 0) (root-small (c.requires.held c.if-tree-ne-ACCEPTED.false)) (mapped_as w c.map_cel_ast-mapped.result) c.map_cel_ast-mapped.ensures.is in
    (omega (arith, few, c.requires.spans_len), omega (arith, few))
