-- `put_spaces` meets its contract: each turn is one space more. Assumes nothing.
use Rattle.std.specs.Prelude.{replicate}
use Rattle.pieces.specs.Pieces.{Wrote}
use Rattle.page.proofs.put_spaces.Given as goal

abbrev pub invariant-loop : goal.invariant-loop
invariant-loop l = Wrote l.initial.out l.out l.at l.end (replicate l.counter 32)
