-- `mapping::validate_string_array` meets its contract: every element that was passed is a string's row. Assumes nothing.
use Rattle.ast_mapping.proofs.Lists.{no-list, all-strings, no-string-there}
use Rattle.ast_mapping.proofs.mapping.validate_string_array.Goals as goal

pub returns-then-row-ne-ARRAY : goal.returns-then-row-ne-ARRAY
returns-then-row-ne-ARRAY c =
    no-list c.args.list.now c.args.name c.row-row.ensures c.if-row-ne-ARRAY.true c.unexpected_type.ensures

pub returns-then-read_row-ne-STRING : goal.returns-then-read_row-ne-STRING
returns-then-read_row-ne-STRING c =
    no-string-there c.args.list.now c.args.name c.row-row.ensures c.if-row-ne-ARRAY.false c.loop-next.next
    c.loop-next.auto.next c.loop-next.invariant c.loop-next-test.true c.read_row.ensures c.if-read_row-ne-STRING.true c.unexpected_type-then-read_row-ne-STRING.ensures

pub returns : goal.returns
returns c =
    all-strings c.args.list.now c.args.name c.row-row.ensures c.if-row-ne-ARRAY.false c.loop-next.next
    c.loop-next.auto.next c.loop-next.invariant c.loop-next-test.false c.loop-next.auto.next-end
