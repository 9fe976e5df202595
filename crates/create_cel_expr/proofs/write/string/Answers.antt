-- `write::string` meets its contract: two pieces, one after the other. Assumes nothing.
use Rattle.std.proofs.Common.{sym}
use Rattle.pieces.specs.Laws.{wrote_then}
use Rattle.create_cel_expr.proofs.write.string.Goals as goal

pub returns : goal.returns
returns c = rw (sym c.string.ensures.part) (wrote_then c.put-past.ensures c.put.ensures)
