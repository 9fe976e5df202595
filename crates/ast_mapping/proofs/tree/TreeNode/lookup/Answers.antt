-- `TreeNode::lookup` meets its contract: what was found so far is what the definition finds among the children passed. Assumes nothing.
use Rattle.ast_mapping.proofs.Walk.{none_passed, all-passed, child-held, key-inside, hit, miss}
use Rattle.ast_mapping.proofs.tree.TreeNode.lookup.Goals as goal

pub loop-next-init : goal.loop-next-init
loop-next-init c = none_passed c.args.self.now c.args.name

pub invariant_of-child : goal.invariant_of-child
invariant_of-child c = record { held = child-held c.loop-next.invariant c.row.ensures c.loop-next-test.true }

pub part-requires : goal.part-requires
part-requires c = key-inside c.loop-next.invariant c.row.ensures c.loop-next-test.true c.row-row.ensures

pub loop-next-preserved-then-is_name : goal.loop-next-preserved-then-is_name
loop-next-preserved-then-is_name c =
    hit c.loop-next.invariant c.row.ensures c.loop-next-test.true c.row-row.ensures c.is_name.ensures c.part.ensures c.if-is_name.true _

pub loop-next-preserved : goal.loop-next-preserved
loop-next-preserved c =
    miss c.loop-next.invariant c.row.ensures c.loop-next-test.true c.row-row.ensures c.is_name.ensures c.part.ensures c.if-is_name.false

pub returns : goal.returns
returns c = all-passed c.loop-next.invariant c.row.ensures c.loop-next-test.false
