-- `write::put_hex` meets its contract: the bytes before this one are written. Assumes nothing.
use Rattle.std.proofs.Common.{take}
use Rattle.pieces.specs.Pieces.{Wrote}
use Rattle.lines.specs.Texts.{pairs}
use Rattle.lines.proofs.write.put_hex.Given as goal

abbrev pub invariant-loop-b : goal.invariant-loop-b
invariant-loop-b l = Wrote l.initial.out l.out l.at l.end (pairs (take l.b-index l.row))
