-- `measure::strings` meets its contract: at each turn the sum so far and what is left come to all of them. Assumes nothing.
use Rattle.std.proofs.Common.{length, ap}
use Rattle.create_cel_expr.proofs.Lists.{summed-next}
use Rattle.create_cel_expr.proofs.measure.strings.Goals as goal

pub loop-i-preserved : goal.loop-i-preserved
loop-i-preserved c =
    let a = c.args in
    let s = c.string.ensures in
    summed-next a.given.now a.begin a.count c.loop-i-test.true (ap length s.part) s.short c.loop-i.invariant
