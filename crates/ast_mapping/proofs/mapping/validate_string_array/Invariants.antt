-- `mapping::validate_string_array` meets its contract: every element that was passed is a string's row. Assumes nothing.
use mathlib.Core.Path.{◌≡◌}
use Prim.Native.Nat.{ℕ, ◌+◌, ◌≤◌, ◌<◌}
use Rattle.cel_text.specs.Table.{string_kind, word}
use Rattle.ast_mapping.proofs.mapping.validate_string_array.Given as goal

abbrev pub invariant-loop-next : goal.invariant-loop-next
invariant-loop-next l = (i : ℕ) → l.list.number.0 + 1 ≤ i → i < l.next → word l.list.table.now i 0 ≡ string_kind
