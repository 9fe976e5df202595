-- `policy::Accepted::put_strings` meets its contract: each string is one piece more. Assumes nothing.
use Rattle.cel_policy.specs.Spans.{spans_at}
use Rattle.pieces.specs.Pieces.{Wrote}
use Rattle.report.specs.Policy.{strings_text}
use Rattle.report.proofs.policy.Accepted.put_strings.Given as goal

abbrev pub invariant-loop-i : goal.invariant-loop-i
invariant-loop-i l = Wrote l.initial.out l.out l.at l.end (strings_text l.self.text.now (spans_at l.self.spans.now l.i l.first))
