-- `find` meets its contract: the tests are the definition's, in its order, and what is left is the value. Assumes nothing.
use Rattle.parser.proofs.Answers.{find-value}
use Rattle.parser.proofs.find.Goals as goal

pub returns : goal.returns
returns c =
    let a = c.args in
    find-value a.text.now a.table.now c.cel_value.new.table c.ascii_end-plain.result.0
    c.if-text-gt-MAX_TEXT.false c.ascii_end-plain.ensures c.if-plain-text.false
    c.cel_value.result (rw c.root.ensures at c.cel_value.ensures)
