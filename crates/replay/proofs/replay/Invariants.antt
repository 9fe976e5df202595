-- `replay` is safe, and ends since its turns are counted; where it stands, it leads on a run from the beginning. Assumes nothing.
use Rattle.replay.specs.Window.{window_of, Inside, Leads}
use Rattle.replay.proofs.replay.Given as goal

abbrev pub invariant-loop : goal.invariant-loop
invariant-loop g l = record {
  inside : Inside l.input l.held;
  leads : Leads l.state (window_of l.input l.held) l.held.ended;
}
