-- `judge::all_plain` meets its contract: at each turn the search from here on finds what the whole search finds. Assumes nothing.
use Rattle.parser.specs.Set.{string_set}
use Rattle.cel_policy.specs.Answers.{bytes_fit}
use Rattle.create_cel_expr.specs.Given.{count_of}
use Rattle.create_cel_expr.proofs.Faults.{Searched}
use Rattle.create_cel_expr.proofs.judge.all_plain.Given as goal

abbrev pub invariant-loop-i : goal.invariant-loop-i
invariant-loop-i l = Searched (bytes_fit string_set l.given.spans.now l.given.text.now) (count_of l.given) l.i
