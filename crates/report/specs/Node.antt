-- Where a node's text starts: a string's at its opening quote, an array's at its bracket, another's at its name, or at its opener where it has
-- none. Assumes nothing.
use Rattle.std.specs.Prelude.{ℕ, zero, suc, ◌+◌, ◌-◌, min, cond, [], ◌∷◌, length, eqb}
use Rattle.cel_text.specs.Byte.{Text}
use Rattle.cel_text.specs.Tree.{array}
use Rattle.cel_text.specs.Table.{Words, string_kind, kind_number, row_at}

-- of a node's row, its kind and where its name or content starts
unfoldable pub kind_at : Words → (node : ℕ) → ℕ
kind_at ws node = (row_at ws node).kind

unfoldable pub from_at : Words → (node : ℕ) → ℕ
from_at ws node = (row_at ws node).from

-- how many arrays stand before a node
abbrev pub arrays_before : Words → (node : ℕ) → ℕ
arrays_before ws zero = 0
arrays_before ws (suc node) = arrays_before ws node + cond (eqb (kind_at ws node) (kind_number array)) 1 0

-- the place of the `[` that so many stand before, or the text's end
abbrev pub bracket_at : Text → (before : ℕ) → ℕ
bracket_at [] before = 0
bracket_at (b ∷ bs) zero = cond (eqb b 91) 0 (suc (bracket_at bs zero))
bracket_at (b ∷ bs) (suc before) = suc (bracket_at bs (cond (eqb b 91) before (suc before)))

unfoldable pub start_of : Text → Words → (node : ℕ) → ℕ
start_of x ws node =
    cond (eqb (kind_at ws node) (kind_number array)) (bracket_at x (arrays_before ws node))
    (cond (eqb (kind_at ws node) string_kind) (min (from_at ws node - 1) (length x)) (min (from_at ws node) (length x)))
