-- `write::put_number` meets its contract: the digits are the fewest that hold the number. Assumes nothing.
use Rattle.std.proofs.Common.{◌∙◌}
use Rattle.pieces.specs.Laws.{wrote_as}
use Rattle.lines.specs.Laws.{digits-numeral}
use Rattle.lines.proofs.write.put_number.Goals as goal

pub returns : goal.returns
returns c = wrote_as (c.decimal-k.ensures.digits ∙ digits-numeral c.decimal-k.result c.args.n c.decimal-k.ensures.len) c.put.ensures
