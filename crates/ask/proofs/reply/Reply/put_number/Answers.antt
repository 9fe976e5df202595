-- `Reply::put_number` meets its contract: what is held is what was held and the piece. Assumes nothing.
use Rattle.ask.proofs.Held.{held}
use Rattle.ask.proofs.reply.Reply.put_number.Goals as goal

pub returns : goal.returns
returns c = rw (← c.from.ensures) (held c.self.told c.self.invariant c.self.view_is c.put_number-self-inside.ensures)
