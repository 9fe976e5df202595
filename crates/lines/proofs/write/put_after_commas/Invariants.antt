-- `write::put_after_commas` meets its contract: the words before this one are written. Assumes nothing.
use Rattle.std.proofs.Common.{take}
use Rattle.pieces.specs.Pieces.{Wrote}
use Rattle.lines.specs.Texts.{after_commas}
use Rattle.lines.proofs.write.put_after_commas.Given as goal

abbrev pub invariant-loop-word : goal.invariant-loop-word
invariant-loop-word l = Wrote l.initial.out l.out l.at l.end (after_commas (take l.word-index l.words))
