-- Where a byte stands in a text, and the part of a text between two places. Assumes nothing.
use Rattle.std.specs.Prelude.{ℕ, suc, ◌-◌, cond, List, [], ◌∷◌, take, drop, eqb}

-- the place of the first b of a list; its length where it has none
abbrev pub index_of : (b : ℕ) → List ℕ → ℕ
index_of b [] = 0
index_of b (x ∷ xs) = cond (eqb x b) 0 (suc (index_of b xs))

-- the bytes from one place on and before another, as far as there are
abbrev pub slice : (from to : ℕ) → List ℕ → List ℕ
slice from to l = take (to - from) (drop from l)
