-- `window::Held::following` meets its contract: where no bytes are wanted, those that are left stay held. Assumes nothing.
use Rattle.std.proofs.Common.{◌≡◌, rules}
use Rattle.recording.specs.declared.Why.TheVariants.{Wanting}
use Rattle.replay.proofs.Windows.{follows-read, follows-behind}
use Rattle.replay.proofs.window.Held.following.Goals as goal

pub returns-then-eq : goal.returns-then-eq
returns-then-eq g c =
    let wants : c.args.turn.why ≡ Wanting = search rules in
    follows-read c.args.input.now c.args.self c.args.turn c.requires c.refill.new.input c.refill.result wants (c.refill.ensures.inside, c.refill.ensures.reads)

pub returns : goal.returns
returns g c =
    let other : c.args.turn.why ≡ Wanting → ⊥ = search rules in
    follows-behind c.args.input.now c.args.self c.args.turn c.requires other
