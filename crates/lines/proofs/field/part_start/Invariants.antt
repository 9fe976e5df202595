-- `field::part_start` meets its contract: the parts that are left, from where it is, begin where they have to. Assumes nothing.
use Rattle.std.proofs.Common.{◌≡◌, ◌-◌, ◌≤◌, length}
use Rattle.lines.specs.Fields.{part_from}
use Rattle.lines.proofs.field.part_start.Given as goal

abbrev pub invariant-loop : goal.invariant-loop
invariant-loop l = (l.at ≤ length l.line) × (part_from l.mark (l.number - l.counter) l.line l.at ≡ part_from l.mark l.number l.line 0)
