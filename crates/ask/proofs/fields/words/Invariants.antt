-- `fields::words` puts no more words than the table has room for: each turn puts one. Assumes nothing.
use Rattle.std.proofs.Common.{◌≤◌, length}
use Rattle.ask.proofs.fields.words.Given as goal

abbrev pub invariant-loop-number : goal.invariant-loop-number
invariant-loop-number l = l.n ≤ length l.table
