-- `policy::put_string` meets its contract: a string is put whole, or its first bytes and its length. Assumes nothing.
use Prim.Native.Nat.{◌+◌}
use borrow.Author.Tests.{le-leb, lt-leb}
use Rattle.pieces.specs.Laws.{wrote_then}
use Rattle.report.specs.Policy.{string_text}
use Rattle.report.proofs.policy.put_string.Goals as goal

pub returns-then-last-first : goal.returns-then-last-first
unfolding string_text
returns-then-last-first c =
    rw (le-leb c.args.to (c.args.from + 72) c.if-last-first.true) (wrote_then c.say-end.ensures (wrote_then c.put_part-end.ensures c.say.ensures))

pub returns : goal.returns
unfolding string_text
returns c =
    rw (lt-leb c.args.to (c.args.from + 72) c.if-last-first.false) (wrote_then c.say-end.ensures (wrote_then c.put_part-end-2.ensures c.say-2.ensures))
