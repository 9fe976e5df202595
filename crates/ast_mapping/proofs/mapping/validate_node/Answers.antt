-- `mapping::validate_node` meets its contract: the row's kind is tested first, then the name that its ends give. Assumes nothing.
use Rattle.ast_mapping.proofs.Steps.{wrong-kind, name-inside, wrong-name, right-name}
use Rattle.ast_mapping.proofs.mapping.validate_node.Goals as goal

pub returns-then-row-expected_kind : goal.returns-then-row-expected_kind
returns-then-row-expected_kind c = wrong-kind c.args.node.now c.args.name c.row-row.ensures c.expected_kind.ensures c.if-row-expected_kind.true c.refused.ensures

pub part-requires : goal.part-requires
part-requires c = name-inside c.args.node.now c.args.name c.row-row.ensures c.expected_kind.ensures c.if-row-expected_kind.false

pub returns-then-not-is_name : goal.returns-then-not-is_name
returns-then-not-is_name c =
    wrong-name c.args.node.now c.args.name c.row-row.ensures c.expected_kind.ensures c.if-row-expected_kind.false c.is_name.ensures c.part.ensures
    c.if-not-is_name.true c.refused-then-not-is_name.ensures

pub returns : goal.returns
returns c =
    right-name c.args.node.now c.args.name c.row-row.ensures c.expected_kind.ensures c.if-row-expected_kind.false c.is_name.ensures c.part.ensures c.if-not-is_name.false
