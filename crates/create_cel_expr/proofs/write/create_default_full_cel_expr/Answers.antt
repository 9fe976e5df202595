-- `write::create_default_full_cel_expr` meets its contract: four pieces, one after the other. Assumes nothing.
use Rattle.std.proofs.Common.{rules}
use Rattle.cel_policy.specs.Printed.{full_text}
use Rattle.pieces.specs.Laws.{wrote_then}
use Rattle.create_cel_expr.proofs.write.create_default_full_cel_expr.Goals as goal

pub returns : goal.returns
unfolding full_text
returns c = search (rules, wrote_then)
