-- `span::put_list` meets its contract: what is still to be put, put into the table as it is, gives the table as it has to be. Assumes nothing.
use mathlib.Core.Path.{◌≡◌}
use Prim.Native.Nat.{◌+◌, ◌-◌, ◌*◌}
use lib.Seq.{sets}
use Rattle.cel_policy.specs.Spans.{span_rows}
use Rattle.ast_mapping.specs.View.{spans_from}
use Rattle.ast_mapping.proofs.span.put_list.Given as goal

abbrev pub invariant-loop-i : goal.invariant-loop-i
invariant-loop-i l =
    sets l.initial.spans (2 * l.from) (span_rows (spans_from l.table l.first l.count))
    ≡ sets l.spans (2 * (l.from + l.i)) (span_rows (spans_from l.table (l.first + l.i) (l.count - l.i)))
