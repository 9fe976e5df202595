-- `row::open_row` meets its contract: six stores, one after the other. Assumes nothing.
use Rattle.std.proofs.Common.{arith, length-set}
use Rattle.parser.proofs.Rows.{put_six}
use Rattle.parser.proofs.row.open_row.Goals as goal

pub bounds-table-at-2 : goal.bounds-table-at-2
bounds-table-at-2 c = simp length-set (omega arith)

pub bounds-table-at-3 : goal.bounds-table-at-3
bounds-table-at-3 c = simp length-set (omega arith)

pub bounds-table-at-4 : goal.bounds-table-at-4
bounds-table-at-4 c = simp length-set (omega arith)

pub bounds-table-at-5 : goal.bounds-table-at-5
bounds-table-at-5 c = simp length-set (omega arith)

pub bounds-table-at-6 : goal.bounds-table-at-6
bounds-table-at-6 c = simp length-set (omega arith)

pub shape_of-table : goal.shape_of-table
shape_of-table c = simp length-set

pub returns : goal.returns
returns c =
    let a = c.args in
    let s = a.slot in
    put_six a.table.now _ a.kind a.from.0 a.to.0 s.key.from.0 s.key.to.0 s.parent.0
