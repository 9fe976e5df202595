-- `say` meets its contract: each byte passed is one piece more. Assumes nothing.
use Rattle.std.proofs.Common.{take}
use Rattle.pieces.specs.Pieces.{Wrote}
use Rattle.page.specs.Page.{said}
use Rattle.page.proofs.say.Given as goal

abbrev pub invariant-loop-b : goal.invariant-loop-b
invariant-loop-b l = Wrote l.initial.out l.out l.at l.end (said (take l.b-index l.words) l.n)
