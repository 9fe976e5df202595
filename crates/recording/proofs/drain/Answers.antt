-- `drain` meets its contract: each turn of its loop is a step of the definition's. Assumes nothing.
use Rattle.std.proofs.Common.{◌≡◌, rules}
use Rattle.recording.specs.declared.Why.TheVariants.{Full}
use Rattle.recording.proofs.Turns.{going-first, went, went-less, going_next, drained-stop}
use Rattle.recording.proofs.drain.Goals as goal

pub loop-out-init : goal.loop-out-init
loop-out-init c = going-first c.args.state c.args.held.now c.args.ended c.args.out.now

pub returns-then-ne : goal.returns-then-ne
returns-then-ne c =
    let a = c.args in
    let l = c.loop-out in
    let d = c.step-turn in
    let stops : d.result.why ≡ Full → ⊥ = search rules in
    drained-stop a.state a.held.now a.ended a.out.now l.turn.used d.new.out d.result
    (went a.state a.held.now a.ended a.out.now c.requires l.out d.new.out l.turn d.result l.invariant c.loop-out-test.true d.ensures) stops

pub loop-out-smaller : goal.loop-out-smaller
loop-out-smaller c =
    let a = c.args in
    let l = c.loop-out in
    let d = c.step-turn in
    let full : d.result.why ≡ Full = search rules in
    went-less a.state a.held.now a.ended a.out.now l.turn.used d.new.out d.result
    (went a.state a.held.now a.ended a.out.now c.requires l.out d.new.out l.turn d.result l.invariant c.loop-out-test.true d.ensures) full

pub loop-out-preserved : goal.loop-out-preserved
loop-out-preserved c =
    let a = c.args in
    let l = c.loop-out in
    let d = c.step-turn in
    let full : d.result.why ≡ Full = search rules in
    going_next a.state a.held.now a.ended a.out.now l.turn.used d.new.out d.result
    (went a.state a.held.now a.ended a.out.now c.requires l.out d.new.out l.turn d.result l.invariant c.loop-out-test.true d.ensures) full
