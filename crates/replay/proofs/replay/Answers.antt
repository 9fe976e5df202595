-- `replay` is safe, and ends since its turns are counted; where it stands, it leads on a run from the beginning. Assumes nothing.
use Rattle.std.proofs.Common.{◌≡◌, rules, arith}
use Rattle.recording.specs.declared.Why.TheVariants.{Over}
use Rattle.replay.proofs.Windows.{leads-first, asks, leads-next}
use Rattle.replay.proofs.replay.Goals as goal

pub loop-init : goal.loop-init
loop-init g c =
    let h = c.default-held.ensures in
    record { inside = record { ordered = omega arith; room = omega arith }; leads = leads-first _ _ c.default-held.result c.start-state.ensures h.0 h.1.0 h.1.1.0 }

pub following-held-requires : goal.following-held-requires
following-held-requires g c =
    let l = c.loop in
    asks l.state l.input l.held _ l.invariant.inside (omega arith) c.advance-turn.result c.advance-turn.ensures.answer

pub loop-preserved : goal.loop-preserved
loop-preserved g c =
    let l = c.loop in
    let d = c.following-held in
    let on : c.advance-turn.result.why ≡ Over → ⊥ = search rules in
    record {
      inside = d.ensures.inside;
      leads = leads-next l.state l.input l.held _ c.advance-turn.result d.new.input d.result l.invariant.leads c.advance-turn.ensures.answer on d.ensures;
    }
