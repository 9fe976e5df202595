-- What `==` says of two texts. Assumes nothing.
use mathlib.Core.Path.{◌≡◌, refl, ap}
use mathlib.Core.Bool.{Bool, ◌&&◌}
use mathlib.Core.List.{[], ◌∷◌}
use lib.Dec.{eqb}
use lib.Pointwise.{pointwise}
use Rattle.cel_text.specs.Byte.{Text}
use Rattle.cel_policy.specs.Names.{same}

pub same_bytes : (a b : Text) → pointwise eqb a b ≡ same a b
same_bytes [] [] = refl
same_bytes [] (b ∷ bs) = refl
same_bytes (a ∷ more) [] = refl
same_bytes (a ∷ more) (b ∷ bs) = ap (λ (r : Bool). eqb a b && r) (same_bytes more bs)
