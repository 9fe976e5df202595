-- A length lies in the bytes held. Assumes nothing.
use mathlib.Core.Path.{◌≡◌, sym}
use Prim.Native.Nat.{◌≤◌}
use Rattle.std.specs.Prelude.{Ok}
use lib.ListN.{length}
use Rattle.cel_text.specs.Byte.{Text}
use Rattle.groups.specs.declared.Number.{Number}
use Rattle.groups.specs.Groups.{number}
use Rattle.groups.proofs.Laws.{fits_as}

pub size_fits : (w : Text) (n : Number) → Ok n ≡ number w → n.size ≤ length w
size_fits w n e = (fits_as w (Ok n) (sym e)).1
