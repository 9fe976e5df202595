-- `advance` meets its contract: the test is the definition's. Assumes nothing.
use Rattle.std.proofs.Common.{sym, refl, ◌∙◌}
use Rattle.recording.proofs.Turns.{halts, advances}
use Rattle.recording.proofs.advance.Goals as goal

pub returns-then-not-countable : goal.returns-then-not-countable
returns-then-not-countable c =
    let a = c.args in
    let h = halts a.state a.held.now a.ended a.out.now _ refl (sym c.countable.ensures ∙ c.if-not-countable.true) in
    record { answer = h.0; output = h.1 }

pub returns : goal.returns
returns c =
    let a = c.args in
    let d = c.drain in
    let h = advances a.state a.held.now (sym c.countable.ensures ∙ c.if-not-countable.false) a.ended a.out.now d.new.out d.result d.ensures in
    record { answer = h.0; output = h.1 }
