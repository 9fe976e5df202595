-- Bytes that stand at a place of a text, and their parts. Assumes nothing.
use Rattle.std.specs.Prelude.{◌≡◌, refl, ℕ, suc, ◌+◌, ◌-◌, ◌≤◌, ◌<◌, [], ◌∷◌, ◌++◌, length, take, drop}
use Rattle.std.proofs.Common.{sym, ap, ◌∙◌, add-one, arith, append_assoc, length-append, length-drop, drop-drop}
use Rattle.std.proofs.Math.Seq.{slice, take-append_seam, drop-append_seam}
use Rattle.cel_text.specs.Byte.{Text}
use Rattle.cel_text.proofs.Laws.Part.{part_slice}

-- the bytes v stand in the text x, at place p
pub record Here (x : Text) (p : ℕ) (v : Text) : Type 0 where
  pub rest : Text
  pub cut : drop p x ≡ v ++ rest

pub here-all : (v rest : Text) → Here (v ++ rest) 0 v
here-all v rest = record { rest = rest; cut = refl }

pub here-left : {x : Text} {p : ℕ} (u v : Text) → Here x p (u ++ v) → Here x p u
here-left u v h = record { rest = v ++ h.rest; cut = h.cut ∙ append_assoc u v h.rest }

pub here-right : {x : Text} {p : ℕ} (u v : Text) → Here x p (u ++ v) → Here x (p + length u) v
here-right {x} {p} u v h =
    record {
      rest = h.rest;
      cut = sym (drop-drop (length u) p x) ∙ ap (drop (length u)) (h.cut ∙ append_assoc u v h.rest) ∙ drop-append_seam u (v ++ h.rest);
    }

pub here-next : {x : Text} {p : ℕ} {b : ℕ} (v : Text) → Here x p (b ∷ v) → Here x (suc p) v
here-next {b} v h = rw add-one at (here-right (b ∷ []) v h)

-- bytes before others end inside the text
pub here-inside : {x : Text} {p : ℕ} (u v : Text) → Here x p (u ++ v) → 0 < length v → p + length u ≤ length x
here-inside {x} {p} u v h l =
    let e : length x - p ≡ length u + length v + length h.rest = sym (length-drop p x) ∙ ap length h.cut ∙ simp length-append in
    omega arith

-- so a part of the text is those bytes
pub here-slice : {x : Text} {p : ℕ} (v : Text) → Here x p v → slice p (p + length v) x ≡ v
here-slice {x} {p} v h =
    let long : p + length v - p ≡ length v = omega arith in
    sym (part_slice p (p + length v) x) ∙ rw long (ap (take (length v)) h.cut ∙ take-append_seam v h.rest)
