-- Numbers and bytes as they are written. Assumes nothing.
use Rattle.std.specs.Prelude.{ℕ, zero, suc, ◌+◌, ◌/◌, ◌%◌, Bool, true, false, List, [], ◌∷◌, ◌++◌, ltb}
use Rattle.io.specs.Digits.{last_digits}

-- a number in decimal: a digit, or those of a tenth of it and its last digit
abbrev pub numeral_or : (ℕ → List ℕ) → (n : ℕ) → (small : Bool) → List ℕ
numeral_or front n true = (48 + n) ∷ []
numeral_or front n false = front (n / 10) ++ ((48 + n % 10) ∷ [])

-- of at most `most` digits
abbrev pub numeral_in : (most n : ℕ) → List ℕ
numeral_in zero n = []
numeral_in (suc most) n = numeral_or (λ (m : ℕ). numeral_in most m) n (ltb n 10)

-- a number has no more digits than itself and one
unfoldable pub numeral : ℕ → List ℕ
numeral n = numeral_in (suc n) n

-- words in decimal, each after a comma
abbrev pub after_commas : List ℕ → List ℕ
after_commas [] = []
after_commas (w ∷ ws) = (44 ∷ []) ++ (numeral w ++ after_commas ws)

-- and with commas between them
abbrev pub numerals : List ℕ → List ℕ
numerals [] = []
numerals (w ∷ ws) = numeral w ++ after_commas ws

-- bytes in hex
unfoldable pub pair : ℕ → List ℕ
pair b = last_digits 16 2 b

abbrev pub pairs : List ℕ → List ℕ
pairs [] = []
pairs (b ∷ bs) = pair b ++ pairs bs
