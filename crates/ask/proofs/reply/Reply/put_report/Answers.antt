-- `Reply::put_report` meets its contract: what is held is the report. Assumes nothing.
use Rattle.std.proofs.Common.{refl, arith}
use Rattle.ask.proofs.Held.{held}
use Rattle.ask.proofs.reply.Reply.put_report.Goals as goal

pub returns : goal.returns
returns c = held c.self.told (omega arith) refl c.report-self-inside.ensures
