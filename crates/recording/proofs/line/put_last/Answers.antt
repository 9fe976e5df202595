-- `line::put_last` meets its contract: ending by ending. Assumes nothing.
use Rattle.recording.specs.Replay.{last_line}
use Rattle.recording.proofs.line.put_last.Goals as goal

pub returns-in-Complete : goal.returns-in-Complete
returns-in-Complete c = rw c.in-Complete.is c.put_counts.ensures

pub returns-in-BrokenLength : goal.returns-in-BrokenLength
unfolding last_line
returns-in-BrokenLength c = rw c.in-BrokenLength.is c.put.ensures

pub returns-in-BrokenBody : goal.returns-in-BrokenBody
unfolding last_line
returns-in-BrokenBody c = rw c.in-BrokenBody.is c.put-in-BrokenBody.ensures
