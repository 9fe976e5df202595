-- What is true of pieces: two that follow one another are one, and one that fits is there whole. Assumes nothing.
use Rattle.std.specs.Prelude.{◌≡◌, refl, ℕ, suc, ◌+◌, ◌-◌, ◌≤◌, min, List, [], ◌∷◌, ◌++◌, length, set, take, drop}
use Rattle.std.proofs.Common.{sym, ap, subst, ◌∙◌, add-zero, arith, append_assoc, append-nil, length-append, length-drop, drop_of_length-le, take-append-drop, length-take-le, take_all, drop-drop}
use Rattle.std.proofs.Math.Nat.{min-eq_left, min-eq_right, min-le_right, min-zero, zero-min}
use Rattle.std.proofs.Math.Decide.{dec_le}
use Rattle.std.proofs.lemmas.List.Edits.{sets, sets-eq}
use Rattle.std.proofs.Math.Seq.{set_out, length-sets, take-length}
use borrow.Rule.Slice.PartMut.{put_mid, mid_of}
use Rattle.pieces.specs.Pieces.{past_of, Wrote, Fits}

pub sets-append : {A : Type 0} (vs ws l : List A) (i : ℕ) → sets l i (vs ++ ws) ≡ sets (sets l i vs) (i + length vs) ws
sets-append [] ws l i = rw add-zero
sets-append (a ∷ vs) ws l i = sets-append vs ws (set l i a) (suc i) ∙ ap (λ (j : ℕ). sets (sets (set l i a) (suc i) vs) j ws) (omega arith)

-- past its end nothing of a list is changed
pub sets-out : {A : Type 0} (vs l : List A) (i : ℕ) → length l ≤ i → sets l i vs ≡ l
sets-out [] l i h = refl
sets-out (a ∷ vs) l i h = ap (λ (w : List _). sets w (suc i) vs) (set_out l i a h) ∙ sets-out vs l (suc i) (omega arith)

pub wrote_none : (out : List ℕ) (at : ℕ) → Wrote out out at at []
wrote_none out at = record { place = sym (add-zero at) ∙ ap (λ (n : ℕ). at + n) (sym (zero-min (length out - at))); buffer = refl }

-- how far a piece comes: all of it, or up to the buffer's end
module _ (out : List ℕ) (at : ℕ) (t : List ℕ) where
  pub past_fits : at + length t ≤ length out → past_of out at t ≡ at + length t
  past_fits h = rw (min-eq_left {n = length t} {m = length out - at} (omega arith))

  pub past-cut : length out ≤ at + length t → past_of out at t ≡ at + (length out - at)
  past-cut h = rw (min-eq_right {n = length out - at} {m = length t} (omega arith))

  pub past-within : at ≤ length out → past_of out at t ≤ length out
  past-within h = omega (arith, min-le_right (length t) (length out - at))

min-shift : (a t u o : ℕ) → a + t ≤ o → a + t + min u (o - (a + t)) ≡ a + min (t + u) (o - a)
min-shift a t u o h =
    elim (dec_le (a + t + u) o) [
      | yes l ↦ rw (min-eq_left {n = u} {m = o - (a + t)} (omega arith), min-eq_left {n = t + u} {m = o - a} (omega arith)) (omega arith)
      | no l ↦ rw (min-eq_right {n = o - (a + t)} {m = u} (omega (arith, l)), min-eq_right {n = o - a} {m = t + u} (omega (arith, l))) (omega arith)
    ]

min-spent : (a t u o : ℕ) → o ≤ a + t → a + (o - a) + min u (o - (a + (o - a))) ≡ a + min (t + u) (o - a)
min-spent a t u o h =
    let none : o - (a + (o - a)) ≡ 0 = omega arith in
    rw (none, min-zero, min-eq_right {n = o - a} {m = t + u} (omega arith)) (omega arith)

module _ (out : List ℕ) (at : ℕ) (t u : List ℕ) where
  -- two pieces are one
  over-append : sets (sets out at t) (past_of out at t) u ≡ sets out at (t ++ u)
  over-append =
      elim (dec_le (at + length t) (length out)) [
        | yes h ↦ ap (λ (k : ℕ). sets (sets out at t) k u) (past_fits out at t h) ∙ sym (sets-append t u out at)
        | no h ↦
            let long : length (sets out at t) ≡ length out = length-sets out at t in
            let cut : past_of out at t ≡ at + (length out - at) = past-cut out at t (omega (arith, h)) in
            sets-out u (sets out at t) (past_of out at t) (omega (arith, long, cut))
            ∙ sym (sets-append t u out at ∙ sets-out u (sets out at t) (at + length t) (omega (arith, long, h)))
      ]

  past-append : past_of (sets out at t) (past_of out at t) u ≡ past_of out at (t ++ u)
  past-append =
      let long : length (sets out at t) ≡ length out = length-sets out at t in
      let both : length (t ++ u) ≡ length t + length u = length-append t u in
      elim (dec_le (at + length t) (length out)) [
        | yes h ↦ rw (long, both, past_fits out at t h) (min-shift at (length t) (length u) (length out) h)
        | no h ↦ rw (long, both, past-cut out at t (omega (arith, h))) (min-spent at (length t) (length u) (length out) (omega (arith, h)))
      ]

pub wrote_then :
    {out out' out'' : List ℕ} {at past past' : ℕ} {t u : List ℕ} → Wrote out out' at past t → Wrote out' out'' past past' u → Wrote out out'' at past' (t ++ u)
wrote_then {out = out} {at = at} {t = t} {u = u} a b =
    record {
      place = b.place ∙ (λ i. past_of (a.buffer i) (a.place i) u) ∙ past-append out at t u;
      buffer = b.buffer ∙ (λ i. sets (a.buffer i) (a.place i) u) ∙ over-append out at t u;
    }

module _ {out out' : List ℕ} {at past : ℕ} {t : List ℕ} (w : Wrote out out' at past t) where
  pub wrote-length : length out' ≡ length out
  wrote-length = ap length w.buffer ∙ length-sets out at t

  pub wrote-within : at ≤ length out → past ≤ length out'
  wrote-within h = omega (arith, w.place, past-within out at t h, wrote-length)

  -- a piece that fits is there whole
  pub wrote-whole : at + length t ≤ length out → (past ≡ at + length t) × (out' ≡ take at out ++ (t ++ drop (at + length t) out))
  wrote-whole h = (w.place ∙ past_fits out at t h, w.buffer ∙ sets-eq t out at h ∙ append_assoc (take at out) t (drop (at + length t) out))

pub wrote_as : {out out' : List ℕ} {at past : ℕ} {t u : List ℕ} → t ≡ u → Wrote out out' at past t → Wrote out out' at past u
wrote_as {out = out} {out' = out'} {at = at} {past = past} e w = subst (Wrote out out' at past) e w

-- ---- room

pub fits-as : {out : List ℕ} {at : ℕ} {t u : List ℕ} → t ≡ u → Fits out at t → Fits out at u
fits-as {out = out} {at = at} e f = subst (Fits out at) e f

-- where two pieces have room the first has, and the second after it
pub fits-first : {out : List ℕ} {at : ℕ} {t : List ℕ} (u : List ℕ) → Fits out at (t ++ u) → Fits out at t
fits-first {t = t} u f = record { room = omega (arith, f.room, length-append t u) }

pub fits-then : {out out' : List ℕ} {at past : ℕ} {t u : List ℕ} → Wrote out out' at past t → Fits out at (t ++ u) → Fits out' past u
fits-then {out = out} {at = at} {t = t} {u = u} w f =
    record { room = omega (arith, f.room, length-append t u, wrote-length w, w.place ∙ past_fits out at t (fits-first {t = t} u f).room) }

-- ---- what a copy into a part of the buffer leaves

-- t copied to the front of what stands from `at` on
pub part-over : (out : List ℕ) (at : ℕ) (t : List ℕ) → at + length t ≤ length out
    → put_mid at (length out - at) out (take (length t) t ++ drop (length t) (mid_of at (length out - at) out)) ≡ sets out at t
part-over out at t h =
    let k : ℕ = length out - at in
    let all : take k (drop at out) ≡ drop at out = take_all k (drop at out) (simp length-drop (omega arith)) in
    let none : drop k (drop at out) ≡ [] = drop_of_length-le (drop at out) {i = k} (simp length-drop (omega arith)) in
    rw (all, none, take-length t, drop-drop, append-nil, sets-eq t out at h, append_assoc)

-- only the bytes for which there is room count
pub sets_first : (out : List ℕ) (at : ℕ) (t : List ℕ) → at ≤ length out → length out ≤ at + length t → sets out at (take (length out - at) t) ≡ sets out at t
sets_first out at t l h =
    let n : ℕ = length out - at in
    let first : length (take n t) ≡ n = length-take-le n t (omega arith) in
    let long : length (sets out at (take n t)) ≡ length out = length-sets out at (take n t) in
    sym
    (ap (sets out at) (sym (take-append-drop n t)) ∙ sets-append (take n t) (drop n t) out at
    ∙ sets-out (drop n t) (sets out at (take n t)) (at + length (take n t)) (omega (arith, first, long)))

-- t in the place of as many bytes from `at` on
pub put_mid-sets : (out : List ℕ) (at k : ℕ) (t : List ℕ) → at + length t ≤ length out → k ≡ length t → put_mid at k out t ≡ sets out at t
put_mid-sets out at k t h e = rw (e, sets-eq t out at h, drop-drop, append_assoc)
