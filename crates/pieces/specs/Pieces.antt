-- Texts written into a lent buffer, piece after piece. Assumes nothing.
use Rattle.std.specs.Prelude.{◌≡◌, ℕ, ◌+◌, ◌-◌, ◌≤◌, min, List, length}
use Rattle.std.proofs.lemmas.List.Edits.{sets}

-- the place after a piece that is written from place `at` on, as far as the buffer goes
abbrev pub past_of : (out : List ℕ) (at : ℕ) (piece : List ℕ) → ℕ
past_of out at piece = at + min (length piece) (length out - at)

-- the piece was written from place `at` on, its first bytes where it has not room for all of them, and nothing else; `past` is the place after it
pub record Wrote (out out' : List ℕ) (at past : ℕ) (piece : List ℕ) : Type 0 where
  pub place : past ≡ past_of out at piece
  pub buffer : out' ≡ sets out at piece

-- the buffer has room for the whole piece from place `at` on
pub record Fits (out : List ℕ) (at : ℕ) (piece : List ℕ) : Type 0 where
  pub room : at + length piece ≤ length out
