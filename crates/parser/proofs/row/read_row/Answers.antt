-- `row::read_row` meets its contract: a whole row is there exactly where its number is below the number of whole rows. Assumes nothing.
use Rattle.std.proofs.Common.{suc, ◌*◌, ◌≤◌, length, add-zero, arith}
use Rattle.cel_text.specs.Table.{row_words}
use Rattle.cel_text.proofs.Laws.Table.{row_inside}
use Rattle.parser.proofs.row.read_row.Goals as goal

pub returns : goal.returns
returns c =
    let n = c.args.node.0 in
    let w = c.args.table.now in
    let whole : row_words * suc n ≤ length w = omega arith in
    rw (row_inside w n whole, add-zero)
