-- One byte more of a text, each byte as f has it. Assumes nothing.
use Rattle.std.proofs.Common.{◌≡◌, ℕ, ◌+◌, ◌<◌, ◌++◌, length, get_or, take, add-one, append-nil}
use Rattle.std.proofs.Math.Seq.{take-suc}
use Rattle.std.proofs.lemmas.Grind.{flat_map-append}
use Rattle.std.specs.List.{flat_map}
use Rattle.cel_text.specs.Byte.{Text}

pub flat-more : (f : ℕ → Text) (x : Text) (i : ℕ) → i < length x → flat_map f (take i x) ++ f (get_or x i 0) ≡ flat_map f (take (i + 1) x)
flat-more f x i h = rw (add-one, take-suc x i 0, flat_map-append, append-nil)
