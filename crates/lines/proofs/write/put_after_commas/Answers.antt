-- `write::put_after_commas` meets its contract: the words before this one are written. Assumes nothing.
use Rattle.std.proofs.Common.{ap}
use Rattle.pieces.specs.Laws.{wrote_then, wrote_as}
use Rattle.lines.specs.Laws.{commas-next}
use Rattle.lines.specs.Texts.{numeral}
use Rattle.lines.proofs.write.put_after_commas.Goals as goal

pub loop-word-preserved : goal.loop-word-preserved
loop-word-preserved c =
    wrote_as (commas-next c.args.words.now c.loop-word.word-index c.loop-word-test.true)
    (wrote_then c.loop-word.invariant (wrote_then c.put-end.ensures (wrote_as (ap numeral c.from.ensures) c.put_number-end.ensures)))
