-- `write::create_response_cel_expr` meets its contract: five pieces, one after the other. Assumes nothing.
use Rattle.std.proofs.Common.{sym}
use Rattle.cel_policy.specs.Printed.{response_text}
use Rattle.pieces.specs.Laws.{wrote_then}
use Rattle.create_cel_expr.proofs.write.create_response_cel_expr.Goals as goal

pub returns : goal.returns
unfolding response_text
returns c =
    rw (sym c.before_response-begin.ensures)
    (wrote_then c.put-opened.ensures (wrote_then c.list_key-keyed.ensures (wrote_then c.put-listed.ensures (wrote_then c.list-headers.ensures c.put.ensures))))
