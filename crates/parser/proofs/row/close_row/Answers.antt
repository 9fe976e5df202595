-- `row::close_row` meets its contract: two stores. Assumes nothing.
use Rattle.std.proofs.Common.{arith, length-set}
use Rattle.parser.proofs.Rows.{put_two}
use Rattle.parser.proofs.row.close_row.Goals as goal

pub bounds-table-at-2 : goal.bounds-table-at-2
bounds-table-at-2 c = simp length-set (omega arith)

pub shape_of-table : goal.shape_of-table
shape_of-table c = simp length-set

pub returns : goal.returns
returns c = put_two c.args.table.now _ c.args.children c.args.past.0
