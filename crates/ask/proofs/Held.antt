-- What a reply holds after a piece. Assumes nothing.
use Rattle.std.specs.Prelude.{◌≡◌, ℕ, ◌+◌, ◌-◌, ◌≤◌, List, [], ◌++◌, length, take, drop}
use Rattle.std.proofs.Common.{sym, ap, ◌∙◌, arith, length-append, length-take-le, take_all, append-nil, drop_of_length-le}
use Rattle.std.proofs.Math.Decide.{dec_le}
use Rattle.std.proofs.Math.Seq.{take-append_seam, take-append-add}
use Rattle.std.proofs.lemmas.List.Edits.{sets-eq}
use Rattle.pieces.specs.Pieces.{Wrote}
use Rattle.pieces.specs.Laws.{past-cut, sets_first, wrote-whole}

module _ {out out' : List ℕ} {at past : ℕ} {t : List ℕ} (l : at ≤ length out) (w : Wrote out out' at past t) where
  abbrev before : List ℕ
  before = take at out

  long : length before ≡ at
  long = length-take-le at out l

  whole : at + length t ≤ length out → take past out' ≡ take (length out) (before ++ t)
  whole h =
      let all : take (length out) (before ++ t) ≡ before ++ t = take_all (length out) (before ++ t) (omega (arith, length-append before t, long, h)) in
      ap (λ (n : ℕ). take n out') ((wrote-whole w h).0 ∙ ap (λ (n : ℕ). n + length t) (sym long))
      ∙ ap (take (length before + length t)) (wrote-whole w h).1
      ∙ take-append-add before (t ++ drop (at + length t) out) (length t)
      ∙ ap (λ (u : List ℕ). before ++ u) (take-append_seam t (drop (at + length t) out))
      ∙ sym all

  -- what stands before the place after the piece: what stood before it and the piece, as far as there is room
  cut : length out ≤ at + length t → take past out' ≡ take (length out) (before ++ t)
  cut h =
      let room : ℕ = length out - at in
      let first : length (take room t) ≡ room = length-take-le room t (omega arith) in
      let none : drop (at + length (take room t)) out ≡ [] = drop_of_length-le out (omega (arith, first)) in
      let end : past ≡ length out = w.place ∙ past-cut out at t h ∙ omega arith in
      let there : out' ≡ before ++ take room t =
      w.buffer ∙ sym (sets_first out at t l h) ∙ sets-eq (take room t) out at (omega (arith, first)) ∙ ap (λ (u : List ℕ). (before ++ take room t) ++ u) none ∙ append-nil (before ++ take room t)
      in
      let size : length (before ++ take room t) ≡ length out = omega (arith, length-append before (take room t), long, first) in
      let whole : length out ≡ length before + room = omega (arith, long) in
      rw (end, there)
      (take_all (length out) (before ++ take room t) (omega (arith, size))
      ∙ sym (ap (λ (n : ℕ). take n (before ++ t)) whole ∙ take-append-add before t room))

pub held : {out out' view : List ℕ} {at past : ℕ} {t : List ℕ} → length out ≡ 65536 → at ≤ 65536 → take at out ≡ view → Wrote out out' at past t → take past out' ≡ take 65536 (view ++ t)
held {out = out} {at = at} {t = t} e l v w =
    rw (← e, ← v)
    (elim (dec_le (at + length t) (length out)) [
      | yes h ↦ whole (omega (arith, e)) w h
      | no h ↦ cut (omega (arith, e)) w (omega (arith, h))
    ])
