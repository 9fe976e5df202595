-- Bytes and the numbers in groups at their front, as one table under one statement, and numbers and their shortest forms: each at the least and the greatest
-- of one, two and three groups, and each fault. Each expected number is written out; all are computed.
use Rattle.std.specs.Prelude.{◌≡◌, refl, ℕ, List, [], ◌∷◌, map, Result, Ok, Err}
use Rattle.groups.specs.declared.Number.{Number}
use Rattle.groups.specs.declared.Fault.{Fault}
use Rattle.groups.specs.declared.Fault.TheVariants.{Cut, Padded, TooMany}
use Rattle.groups.specs.Groups.{groups, number}

record Case : Type 0 where
  bytes : List ℕ
  number : Result Number Fault

abbrev reads : (bytes : List ℕ) (value size : ℕ) → Case
reads x n k = record { bytes = x; number = Ok (record { value = n; size = k }) }

abbrev faulty : List ℕ → Fault → Case
faulty x f = record { bytes = x; number = Err f }

cases : List Case
cases =
    reads (0 ∷ []) 0 1
    ∷ reads (127 ∷ 200 ∷ []) 127 1
    ∷ reads (128 ∷ 1 ∷ []) 128 2
    ∷ reads (255 ∷ 127 ∷ 0 ∷ []) 16383 2
    ∷ reads (128 ∷ 128 ∷ 1 ∷ []) 16384 3
    ∷ reads (255 ∷ 255 ∷ 127 ∷ 1 ∷ []) 2097151 3
    ∷ faulty [] Cut
    ∷ faulty (131 ∷ []) Cut
    ∷ faulty (255 ∷ 255 ∷ []) Cut
    ∷ faulty (128 ∷ 0 ∷ []) Padded
    ∷ faulty (131 ∷ 0 ∷ 1 ∷ []) Padded
    ∷ faulty (255 ∷ 128 ∷ 0 ∷ []) Padded
    ∷ faulty (128 ∷ 128 ∷ 128 ∷ []) TooMany
    ∷ faulty (131 ∷ 128 ∷ 128 ∷ 1 ∷ []) TooMany
    ∷ faulty (255 ∷ 255 ∷ 255 ∷ 0 ∷ []) TooMany
    ∷ []

numbers-hold : map (λ (c : Case). number c.bytes) cases ≡ map (λ (c : Case). c.number) cases
unfolding cases number
numbers-hold = refl

forms-hold :
    map groups (0 ∷ 127 ∷ 128 ∷ 16383 ∷ 16384 ∷ 2097151 ∷ [])
    ≡ ((0 ∷ []) ∷ (127 ∷ []) ∷ (128 ∷ 1 ∷ []) ∷ (255 ∷ 127 ∷ []) ∷ (128 ∷ 128 ∷ 1 ∷ []) ∷ (255 ∷ 255 ∷ 127 ∷ []) ∷ [])
unfolding groups
forms-hold = refl
