-- A part of a text, as it is cut, is the part between its places. Assumes nothing.
use Rattle.std.specs.Prelude.{◌≡◌, ℕ, zero, suc, ◌-◌, [], ◌∷◌, take, drop}
use Rattle.std.proofs.Math.Nat.{sub-zero, zero-sub, suc-sub-suc}
use Rattle.std.proofs.Math.Seq.{slice, take-nil}
use Rattle.cel_text.specs.Byte.{Text}

pub part_slice : (f t : ℕ) (x : Text) → take (t - f) (drop f x) ≡ slice f t x
part_slice zero t x = rw sub-zero
part_slice (suc f) zero x = rw zero-sub
part_slice (suc f) (suc t) [] = take-nil (suc t - suc f)
part_slice (suc f) (suc t) (b ∷ x) = rw suc-sub-suc (part_slice f t x)
