-- One byte more of those that an iterator gives. Assumes nothing.
use Rattle.std.proofs.Common.{◌≡◌, refl, ◌∙◌, ℕ, ◌+◌, ◌-◌, ◌≤◌, ◌<◌, List, ◌++◌, ◌∷◌, [], length, get_or, drop, cond, Bool, true, false, Option, None, eqb, arith, length-append}
use Rattle.std.specs.Prelude.{Some as Got}
use Rattle.std.specs.Iterator.{Yields}
use Rattle.std.proofs.lemmas.Iterator.{YieldsList}
use Rattle.std.proofs.lemmas.Iterator.Consumers.{YieldsList-turn, YieldsList-end}
use Rattle.std.proofs.lemmas.List.{get_or_default}
use denote.Ref.{Bor}
use Rattle.cel_text.specs.Byte.{Text}
use Rattle.page.specs.Page.{plain, shown_byte}
use Rattle.report.specs.Window.{forth_from}
use Rattle.report.proofs.Walks.{forth-stop, forth-more, forth-end}

-- a byte takes a column
record Some (x : Text) : Type 0 where
  long : 1 ≤ length x

one-of : (t : Bool) {x y : Text} → Some x → Some y → Some (cond t x y)
one-of true h k = h
one-of false h k = k

some : (b : ℕ) (x : Text) → Some (b ∷ x)
some b x = record { long = omega arith }

shown-some : (b : ℕ) → Some (shown_byte b)
unfolding shown_byte
shown-some b =
    one-of (eqb b 9) (some _ _) (one-of (eqb b 10) (some _ _) (one-of (eqb b 13) (some _ _) (one-of (eqb b 92) (some _ _) (one-of (plain b) (some _ _) (some _ _)))))

pub takes-column : (b : ℕ) → 1 ≤ length (shown_byte b)
takes-column b = (shown-some b).long

-- where an iterator that gives `all` has given xs
module _ {S : Type 0} (steps : S → Option (Bor ℕ) → S → Type 0) (s t u : S) (all : Text) (e : YieldsList steps (λ b. b.now) s all) (xs : List (Bor ℕ))
    (y : Yields steps s xs t) (room at columns : ℕ) where
  here : (b : Bor ℕ) → (length xs < length all) × (b.now ≡ get_or all (length xs) b.now) → b.now ≡ get_or all (length xs) 0
  here b turn = turn.1 ∙ get_or_default all (length xs) b.now 0 turn.0

  pub pass-stop : (b : Bor ℕ) → steps t (Got b) u → room - columns < length (shown_byte b.now)
      → record { at = at; columns = columns } ≡ forth_from (drop (length xs) all) room at columns
  pass-stop b n h =
      let turn = YieldsList-turn e xs t y (Got b) u b refl n in
      forth-stop all room (length xs) at columns turn.0 (rw (← here b turn) h)

  pub pass-more : (b : Bor ℕ) (more : ℕ) → steps t (Got b) u → more ≡ length (shown_byte b.now) → more ≤ room - columns
      → forth_from (drop (length xs) all) room at columns ≡ forth_from (drop (length (xs ++ (b ∷ []))) all) room (at + 1) (columns + more)
  pass-more b more n k h =
      let turn = YieldsList-turn e xs t y (Got b) u b refl n in
      let long : length (xs ++ (b ∷ [])) ≡ length xs + 1 = rw length-append in
      rw (long, k, here b turn) (forth-more all room (length xs) at columns turn.0 (rw (← here b turn, ← k) h))

  pub pass-end : steps t None u → record { at = at; columns = columns } ≡ forth_from (drop (length xs) all) room at columns
  pass-end n = forth-end all room (length xs) at columns (let end = YieldsList-end e xs t y None u refl n in omega (arith, end.1))
