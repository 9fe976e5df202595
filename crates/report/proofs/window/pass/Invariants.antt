-- `window::pass` meets its contract: what is left to pass gives what the whole gives, and each byte passed takes a column. Assumes nothing.
use mathlib.Core.Path.{◌≡◌}
use Prim.Native.Nat.{ℕ, ◌≤◌}
use lib.ListN.{length, drop}
use denote.Ref.{Bor}
use Rattle.std.specs.Iterator.{AlwaysYields}
use Rattle.cel_text.specs.Byte.{Text}
use Rattle.report.specs.Window.{forth_from}
use Rattle.report.proofs.window.pass.Given as goal

abbrev pub invariant-loop-b : goal.invariant-loop-b
invariant-loop-b g l = record {
  counted : l.at ≤ l.columns;
  within : l.columns ≤ l.room;
  same : (all : Text) → AlwaysYields g.I.Iterator.next_gives (λ (b : Bor ℕ). b.now) l.fn.bytes all
      → forth_from all l.room 0 0 ≡ forth_from (drop (length l.yielded) all) l.room l.at l.columns;
}
