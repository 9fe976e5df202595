-- `write::put_words` meets its contract: the first word, and the others after commas. Assumes nothing.
use Rattle.std.proofs.Common.{ap, arith}
use Rattle.pieces.specs.Laws.{wrote_then, wrote_as}
use Rattle.lines.specs.Laws.{some_words}
use Rattle.lines.specs.Texts.{numeral}
use Rattle.lines.proofs.write.put_words.Goals as goal

pub returns : goal.returns
returns c =
    wrote_as (some_words c.args.words.now (λ none. omega (arith, none, c.in-len1-up.len_at_least)))
    (wrote_then (wrote_as (ap numeral c.from.ensures) c.put_number-end.ensures) c.put_after_commas.ensures)
