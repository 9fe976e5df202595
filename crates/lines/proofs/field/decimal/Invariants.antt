-- `field::decimal` meets its contract: what is left of the field gives what the whole gives. Assumes nothing.
use Rattle.std.proofs.Common.{◌≡◌, ◌≤◌, drop}
use Rattle.lines.specs.Fields.{read_from}
use Rattle.lines.proofs.field.decimal.Given as goal

abbrev pub invariant-loop-b : goal.invariant-loop-b
invariant-loop-b l = (read_from l.most l.initial.n l.field ≡ read_from l.most l.n (drop l.b-index l.field)) × (l.n ≤ l.most)
