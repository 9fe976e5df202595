-- `judge::all_inside` meets its contract: at each turn the search from here on finds what the whole search finds. Assumes nothing.
use Rattle.cel_policy.specs.Answers.{span_fits}
use Rattle.create_cel_expr.proofs.Faults.{Searched}
use Rattle.create_cel_expr.proofs.judge.all_inside.Given as goal

abbrev pub invariant-loop-i : goal.invariant-loop-i
invariant-loop-i l = Searched (span_fits l.spans l.text) l.count l.i
