-- `write::create_default_response_only_cel_expr` meets its contract: three pieces, one after the other. Assumes nothing.
use Rattle.cel_policy.specs.Printed.{response_only_text}
use Rattle.pieces.specs.Laws.{wrote_then}
use Rattle.create_cel_expr.proofs.write.create_default_response_only_cel_expr.Goals as goal

pub returns : goal.returns
unfolding response_only_text
returns c =
    wrote_then c.put-opened.ensures (wrote_then c.create_response_cel_expr-response.ensures c.put.ensures)
