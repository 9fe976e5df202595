-- The fields of a line, hexadecimal digits and decimal numbers, and where its parts begin. Assumes nothing.
use Rattle.std.specs.Prelude.{ℕ, zero, suc, ◌+◌, ◌-◌, ◌*◌, ◌/◌, ◌≤◌, min, Bool, cond, ◌&&◌, List, [], ◌∷◌, ◌++◌, length, take, drop, ltb, leb, eqb, Option, Some, None}
use Rattle.lines.specs.Bytes.{index_of, slice}
use Rattle.lines.specs.declared.field.Field.{Field}

-- the value of a hexadecimal digit
abbrev pub hex_value : ℕ → Option ℕ
hex_value b =
    cond (ltb b 48) None
    (cond (leb b 57) (Some (b - 48))
    (cond (ltb b 65) None (cond (leb b 70) (Some (b - 55)) (cond (ltb b 97) None (cond (leb b 102) (Some (b - 87)) None)))))

-- the byte of a pair of digits before others; nothing where one is no digit
abbrev pub pair_before : (high low : Option ℕ) → List ℕ → List ℕ
pair_before (Some high) (Some low) rest = (16 * high + low) ∷ rest
pair_before (Some high) None rest = []
pair_before None low rest = []

-- the bytes that pairs of digits give, up to the first that is no pair
abbrev pub hex_bytes : List ℕ → List ℕ
hex_bytes [] = []
hex_bytes (high ∷ []) = []
hex_bytes (high ∷ (low ∷ rest)) = pair_before (hex_value high) (hex_value low) (hex_bytes rest)

-- whether a field's length is that of pairs, and no more of them than there is room for
abbrev pub pairs_fit : (long room : ℕ) → Bool
pairs_fit long room = eqb (2 * (long / 2)) long && leb (long / 2) room

-- how many bytes a field gives in hex, where they fit and all its pairs are pairs of digits
abbrev pub hex_count : List ℕ → (room : ℕ) → Option ℕ
hex_count field room =
    cond (pairs_fit (length field) room) (cond (eqb (length (hex_bytes field)) (length field / 2)) (Some (length field / 2)) None) None

-- what unhexing leaves
abbrev pub hex_left : (field out : List ℕ) → List ℕ
hex_left field out = cond (pairs_fit (length field) (length out)) (hex_bytes field ++ drop (length (hex_bytes field)) out) out

-- the value of a decimal digit
abbrev pub digit : ℕ → Option ℕ
digit b = cond (ltb b 48) None (cond (ltb 57 b) None (Some (b - 48)))

-- the decimal digits of a field after those that make n, where no number on the way is over `most`
abbrev pub read_from : (most n : ℕ) → List ℕ → Option ℕ
read_from most n [] = Some n
read_from most n (b ∷ bs) =
    cond (ltb b 48) None (cond (ltb 57 b) None (cond (ltb most (10 * n + (b - 48))) None (read_from most (10 * n + (b - 48)) bs)))

abbrev pub read_decimal : (most : ℕ) → List ℕ → Option ℕ
read_decimal most [] = None
read_decimal most (b ∷ bs) = read_from most 0 (b ∷ bs)

abbrev pub AtMost : (most : ℕ) → Option ℕ → Type 0
AtMost most (Some n) = n ≤ most
AtMost most None = Unit

-- where the part ends that begins at a place, its end being a mark or the line's end
abbrev pub part_end : (mark : ℕ) → List ℕ → (from : ℕ) → ℕ
part_end mark line from = from + index_of mark (slice from (length line) line)

-- where part n begins, counted from the one that begins at a place; the line's end where there are fewer
abbrev pub part_from : (mark n : ℕ) → List ℕ → (from : ℕ) → ℕ
part_from mark zero line from = from
part_from mark (suc n) line from = part_from mark n line (min (part_end mark line from + 1) (length line))

-- where the field ends that begins at a place: at a tab
abbrev pub field_end : List ℕ → (from : ℕ) → ℕ
field_end line from = part_end 9 line from

abbrev pub ending : Option ℕ → (end : ℕ) → Option Field
ending (Some n) end = Some (record { value = n; end = end })
ending None end = None

-- the number of the field after the one that ends at a place, where there is one
abbrev pub number_after : (most : ℕ) → List ℕ → (at : ℕ) → Option Field
number_after most line at =
    cond (leb (length line) at) None
    (ending (read_decimal most (take (field_end line (at + 1) - (at + 1)) (drop (at + 1) line))) (field_end line (at + 1)))

-- a number within its limit, and its field's end within the line
abbrev pub Within : (long most : ℕ) → Option Field → Type 0
Within long most (Some field) = (field.value ≤ most) × (field.end ≤ long)
Within long most None = Unit
