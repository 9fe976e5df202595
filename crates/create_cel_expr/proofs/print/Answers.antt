-- `print` meets its contract: what has room is written. Assumes nothing.
use Rattle.std.proofs.Common.{arith}
use Rattle.create_cel_expr.specs.Given.{policy_of}
use Rattle.create_cel_expr.proofs.Sizes.{written-front}
use Rattle.create_cel_expr.proofs.print.Goals as goal

pub returns-clause-output : goal.returns-clause-output
returns-clause-output c =
    let l = c.printed_length-length.ensures in
    rw c.in_ok-given.was (written-front (policy_of c.in_ok-given.given) (omega (arith, l)) (omega (arith, l)) c.create_cel_expr.ensures)
