-- `write::list` meets its contract: at each turn whatever writes the rest of the list from here on has written all of it. Assumes nothing.
use Rattle.pieces.specs.Pieces.{Fits}
use Rattle.create_cel_expr.proofs.Lists.{Going, rest_of}
use Rattle.create_cel_expr.proofs.write.list.Given as goal

abbrev pub invariant-loop-i : goal.invariant-loop-i
invariant-loop-i l = Fits l.out l.past (rest_of l.given l.begin l.count l.i) × Going l.given l.begin l.count l.initial.out l.initial.past l.out l.past l.i
