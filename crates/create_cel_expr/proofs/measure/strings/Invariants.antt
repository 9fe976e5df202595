-- `measure::strings` meets its contract: at each turn the sum so far and what is left come to all of them. Assumes nothing.
use Rattle.create_cel_expr.proofs.Lists.{Summed}
use Rattle.create_cel_expr.proofs.measure.strings.Given as goal

abbrev pub invariant-loop-i : goal.invariant-loop-i
invariant-loop-i l = Summed l.given l.begin l.count l.length l.i
