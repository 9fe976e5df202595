-- `write::put_byte` meets its contract: two digits are the fewest that hold a byte. Assumes nothing.
use Rattle.std.proofs.Common.{ap, ◌∙◌, arith}
use Rattle.pieces.specs.Laws.{wrote_as}
use Rattle.lines.specs.Laws.{digits-pair}
use Rattle.lines.specs.Texts.{pair}
use Rattle.lines.proofs.write.put_byte.Goals as goal

pub returns : goal.returns
returns c =
    let h = c.hex-k in
    wrote_as (h.ensures.digits ∙ digits-pair c.from.result h.result (omega arith) h.ensures.len ∙ ap pair c.from.ensures) c.put.ensures
