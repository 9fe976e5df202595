-- The part of a text around a place, on one line, with a caret under the place. Assumes nothing.
use Rattle.std.specs.Prelude.{ℕ, zero, suc, ◌+◌, ◌-◌, Bool, cond, [], ◌∷◌, length, get_or, take, drop, replicate, ltb, eqb}
use Rattle.std.proofs.Math.Seq.{slice}
use Rattle.cel_text.specs.Byte.{Text, ◌⧺◌, bytes}
use Rattle.page.specs.Page.{shown_byte, shown, said}
use Rattle.report.specs.declared.window.Side.{Side}
use Rattle.report.specs.declared.window.Spot.{Spot}

-- one end of the part, and the columns between it and the place
abbrev side : (at columns : ℕ) → Side
side at columns = record { at = at; columns = columns }

-- from a place back, as far as the room goes: columns are taken already
abbrev pub back_from : Text → (room at columns : ℕ) → Side
back_from x room zero columns = side 0 columns
back_from x room (suc at) columns =
    cond (ltb (room - columns) (length (shown_byte (get_or x at 0)))) (side (suc at) columns)
    (back_from x room at (columns + length (shown_byte (get_or x at 0))))

-- from a place forth, over the bytes that stand there
abbrev pub forth_from : Text → (room at columns : ℕ) → Side
forth_from [] room at columns = side at columns
forth_from (b ∷ bs) room at columns =
    cond (ltb (room - columns) (length (shown_byte b))) (side at columns) (forth_from bs room (suc at) (columns + length (shown_byte b)))

unfoldable pub back : Text → (place room : ℕ) → Side
back x place room = back_from x room place 0

unfoldable pub forth : Text → (place room : ℕ) → Side
forth x place room = forth_from (drop place x) room place 0

-- the mark that the text begins earlier, or a margin; and the mark that it goes on
unfoldable pub margin_text : (from : ℕ) → Text
margin_text from = cond (eqb from 0) (said (bytes "\n    ") 0) (said (bytes "\n... ") 0)

unfoldable pub end_text : (more : Bool) → Text
end_text more = cond more (said (bytes " ...\n") 0) (said (bytes "\n") 0)

-- the text from one side to the other, and the caret's line up to what is said of the place
unfoldable pub between_text : Text → (first last : Side) → Text
between_text x first last =
    margin_text first.at
    ⧺ shown (slice first.at last.at x)
    ⧺ end_text (ltb last.at (length x))
    ⧺ replicate (4 + first.columns) 32
    ⧺ said (bytes "^ ") 0

-- at most 72 columns of the text; 36 are kept for what stands before the place, and those that neither side needs are the other's
unfoldable pub last_of : Text → (place : ℕ) → Side
last_of x place = forth x place (72 - (back x place 36).columns)

unfoldable pub caret_text : Text → (place : ℕ) → Text
caret_text x place = between_text x (back x place (72 - (last_of x place).columns)) (last_of x place)

-- the line and column after a byte
abbrev pub after_byte : Spot → (b : ℕ) → Spot
after_byte s b = cond (eqb b 10) (record { line = s.line + 1; column = 1 }) (record { line = s.line; column = s.column + 1 })

abbrev pub after_bytes : Spot → Text → Spot
after_bytes s [] = s
after_bytes s (b ∷ bs) = after_bytes (after_byte s b) bs

-- line and column of a place, both counted from 1
unfoldable pub spot_of : Text → (place : ℕ) → Spot
spot_of x place = after_bytes (record { line = 1; column = 1 }) (take place x)

-- a line for the line and column of a place that is not in the first line
unfoldable pub spot_text : Spot → Text
spot_text s = cond (eqb s.line 1) [] (said (bytes "    Line #, column ") s.line ⧺ said (bytes "#.\n") s.column)

unfoldable pub place_text : Text → (place : ℕ) → Text
place_text x place = said (bytes "byte #\n") place ⧺ spot_text (spot_of x place)

-- the part around a byte
unfoldable pub byte_place_text : Text → (place : ℕ) → Text
byte_place_text x place = caret_text x place ⧺ place_text x place

-- the part around a node, whose text starts at the place
unfoldable pub node_place_text : Text → (node place : ℕ) → Text
node_place_text x node place = caret_text x place ⧺ said (bytes "node #, ") node ⧺ place_text x place
