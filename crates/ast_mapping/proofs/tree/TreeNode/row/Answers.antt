-- `TreeNode::row` meets its contract: a held node's row is in the table. Assumes nothing.
use Rattle.ast_mapping.proofs.View.{row_read, room}
use Rattle.ast_mapping.proofs.tree.TreeNode.row.Goals as goal

pub returns : goal.returns
returns c = let e = c.args.self.now in row_read c.read_row.ensures (room e.table.now e.text.now e.number.0 e.held)
