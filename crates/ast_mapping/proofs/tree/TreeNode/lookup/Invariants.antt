-- `TreeNode::lookup` meets its contract: what was found so far is what the definition finds among the children passed. Assumes nothing.
use Prim.Native.Nat.{◌-◌}
use Rattle.ast_mapping.proofs.Walk.{Passed}
use Rattle.ast_mapping.proofs.tree.TreeNode.lookup.Given as goal

abbrev pub invariant-loop-next : goal.invariant-loop-next
invariant-loop-next l = Passed l.self l.name l.next.0 l.found

abbrev pub decreases-loop-next : goal.decreases-loop-next
decreases-loop-next l = l.end.0 - l.next.0
