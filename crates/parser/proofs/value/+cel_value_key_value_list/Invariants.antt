-- The depth left falls from a value to its list. The loop keeps the list's reading up to the child that is due, and the place rises. Assumes nothing.
use Rattle.std.proofs.Common.{◌+◌, ◌-◌, ◌*◌, length}
use Rattle.parser.specs.Kinds.{kind_told}
use Rattle.parser.proofs.Lists.{Due-child}
use Rattle.parser.proofs.value.+cel_value_key_value_list.Given as goal

abbrev pub decreases-cel_value : goal.decreases-cel_value
decreases-cel_value l = 3 * l.left

abbrev pub decreases-key_value : goal.decreases-key_value
decreases-key_value l = 3 * l.left + 1

abbrev pub decreases-list : goal.decreases-list
decreases-list l = 3 * l.left + 2

abbrev pub invariant-list-loop-read : goal.invariant-list-loop-read
invariant-list-loop-read l = Due-child l.text l.initial.table l.table l.initial.from.0 l.node.0 (kind_told l.kind) l.left l.from.0 l.next.0 l.count l.depth

abbrev pub decreases-list-loop-read : goal.decreases-list-loop-read
decreases-list-loop-read l = length l.text - l.from.0
