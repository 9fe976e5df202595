-- Numbers in groups of seven bits, at most three of them. Assumes nothing.
use Rattle.std.specs.Prelude.{◌≡◌, ℕ, zero, suc, ◌+◌, ◌-◌, ◌*◌, ◌/◌, ◌%◌, ◌≤◌, ◌<◌, cond, List, [], ◌∷◌, length, ltb, eqb, Result, Ok, Err}
use Rattle.groups.specs.declared.Number.{Number}
use Rattle.groups.specs.declared.Fault.{Fault}
use Rattle.groups.specs.declared.Fault.TheVariants.{Cut, Padded, TooMany}

-- “A number in groups is cut into groups of seven bits. Each group is a byte, the lowest group first, and 128 is added to every byte but the last.”
pub data Grouped : List ℕ → ℕ → Type 0 where
  last : {b : ℕ} → b < 128 → Grouped (b ∷ []) b
  more : {b m n : ℕ} {x : List ℕ} → 128 ≤ b → b < 256 → Grouped x m → n ≡ b - 128 + 128 * m → Grouped (b ∷ x) n

-- “It is in its shortest form when the number has no form of fewer groups.”
pub record Shortest (x : List ℕ) (n : ℕ) : Type 0 where
  pub grouped : Grouped x n
  pub least : (y : List ℕ) → Grouped y n → length x ≤ length y

-- the shortest form of n, where that has at most left + 1 groups
abbrev pub groups_in : (left n : ℕ) → List ℕ
groups_in zero n = n ∷ []
groups_in (suc left) n = cond (ltb n 128) (n ∷ []) ((128 + n % 128) ∷ groups_in left (n / 128))

-- “the greatest is 2,097,151”
abbrev pub max_number : ℕ
max_number = 2097151

unfoldable pub groups : ℕ → List ℕ
groups n = groups_in 2 n

abbrev pub whole : (value size : ℕ) → Result Number Fault
whole value size = Ok (record { value = value; size = size })

-- a group that another follows, before what is read there: a number of 0 is a last group of 0. “A number whose last group of several is 0 is not in its shortest form.”
abbrev pub before : (b : ℕ) → Result Number Fault → Result Number Fault
before b (Ok n) = cond (eqb n.value 0) (Err Padded) (whole (b - 128 + 128 * n.value) (suc n.size))
before b (Err fault) = Err fault

-- the number at the front of some bytes, of at most left + 1 groups, and how many groups it has; groups that are cut short, that are not in their
-- shortest form, or more than three
abbrev pub number_in : (left : ℕ) → List ℕ → Result Number Fault
number_in left [] = Err Cut
number_in zero (b ∷ x) = cond (ltb b 128) (whole b 1) (Err TooMany)
number_in (suc left) (b ∷ x) = cond (ltb b 128) (whole b 1) (before b (number_in left x))

unfoldable pub number : List ℕ → Result Number Fault
number x = number_in 2 x

-- a number of several groups, by its last group
abbrev pub ending : (value group size : ℕ) → Result Number Fault
ending value group size = cond (eqb group 0) (Err Padded) (whole value size)
