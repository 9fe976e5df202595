-- A run writes what the recording replays as, however it is cut into pieces, and comes to its end. Assumes nothing.
use Rattle.std.specs.Prelude.{◌≡◌, refl, ℕ, zero, suc, ◌+◌, ◌-◌, ◌≤◌, ◌<◌, Bool, true, false, List, [], ◌∷◌, ◌++◌, map, length, drop}
use Rattle.std.specs.List.{concat}
use Rattle.std.proofs.Common.{sym, ap, subst, true≢false, ◌∙◌, arith, append_assoc, append-nil, length-append, length-drop, le-leb}
use Rattle.cel_text.specs.Byte.{Text}
use Rattle.cel_text.proofs.Laws.Limit.{clash}
use Rattle.recording.specs.declared.State.{State}
use Rattle.recording.specs.declared.Why.{Why}
use Rattle.recording.specs.declared.Why.TheVariants.{Wanting, Full, Over}
use Rattle.recording.specs.Replay.{heading, replayed}
use Rattle.recording.specs.Window.{owed, owed_as}
use Rattle.recording.specs.Turn.{beginning, Turned, line_room, max_count, countable, turned, Runs, over, full, reads, ends}
use Rattle.recording.proofs.Laws.Turn.{Kept, turned-kept, turned-uses, turned-wanting}

-- so many bytes, held and to come, can be counted
pub record Counted (s : State) (bytes : ℕ) : Type 0 where
  pub count : s.count + bytes ≤ max_count
  pub refused : s.refused + bytes ≤ max_count

module _ (s : State) (w : Text) (ended : Bool) (more room : ℕ) (h : Counted s (length w + more)) where
  counted_is : countable s (length w) ≡ true
  counted_is = rw (le-leb (s.count + length w) max_count (omega (arith, h.count)), le-leb (s.refused + length w) max_count (omega (arith, h.refused)))

  kept : Kept s w ended room (turned s w ended room)
  kept = turned-kept s w ended room counted_is

  left : length (drop (turned s w ended room).used w) ≡ length w - (turned s w ended room).used
  left = length-drop (turned s w ended room).used w

  -- what is left of them, with those to come
  counted_next : Counted (turned s w ended room).state (length (drop (turned s w ended room).used w) + more)
  counted_next =
      record { count = omega (arith, h.count, left, kept.within, kept.count); refused = omega (arith, h.refused, left, kept.within, kept.refused) }

-- a piece that is read
counted-read : (s : State) (a b : Text) (more : ℕ) → Counted s (length a + (length b + more)) → Counted s (length (a ++ b) + more)
counted-read s a b more h = record { count = omega (arith, h.count, length-append a b); refused = omega (arith, h.refused, length-append a b) }

-- the pieces' length, piece by piece
counted-piece : (s : State) (w c : Text) (cs : List Text) → Counted s (length w + length (concat (c ∷ cs))) → Counted s (length w + (length c + length (concat cs)))
counted-piece s w c cs h = record { count = omega (arith, h.count, length-append c (concat cs)); refused = omega (arith, h.refused, length-append c (concat cs)) }

counted_none : (s : State) (w : Text) → Counted s (length w + 0) → Counted s (length w + length (concat []))
counted_none s w h = h

-- ---- what it writes

module _ (s : State) (w : Text) (ended : Bool) (room more : ℕ) (h : Counted s (length w + more)) where
  -- what is written and what is owed after it, for a turn that stopped so
  goes-right :
      (a : Why) (y : Text) → (turned s w ended room).why ≡ a → (ended ≡ true → y ≡ [])
      → owed s (w ++ y) ≡ (turned s w ended room).wrote ++ owed_as a (turned s w ended room).state (drop (turned s w ended room).used w ++ y)
  goes-right a y q f =
      subst
      (λ (b : Why). owed s (w ++ y) ≡ (turned s w ended room).wrote ++ owed_as b (turned s w ended room).state (drop (turned s w ended room).used w ++ y))
      q
      ((kept s w ended more room h).right y f)

pub run-right :
    {s : State} {w o : Text} {ended : Bool} {cs : List Text} → Runs s w ended cs o → (ended ≡ true → cs ≡ []) → Counted s (length w + length (concat cs))
    → o ≡ owed s (w ++ concat cs)
run-right {s = s} {w = w} {ended = ended} {cs = cs} (over room q e) f h =
    e ∙ sym (goes-right s w ended room (length (concat cs)) h Over (concat cs) q (λ t. ap concat (f t)) ∙ append-nil (turned s w ended room).wrote)
run-right {s = s} {w = w} {ended = ended} {cs = cs} (full room q r e) f h =
    let i = run-right r f (counted_next s w ended (length (concat cs)) room h) in
    e ∙ ap (λ (z : Text). (turned s w ended room).wrote ++ z) i ∙ sym (goes-right s w ended room (length (concat cs)) h Full (concat cs) q (λ t. ap concat (f t)))
run-right {s = s} {w = w} (reads {c = c} {cs = cs} room q r e) f h =
    let t : Turned = turned s w false room in
    let p : Counted t.state (length (drop t.used w) + (length c + length (concat cs))) =
    counted_next s w false (length c + length (concat cs)) room (counted-piece s w c cs h) in
    let i = run-right r (λ b. clash cc) (counted-read t.state (drop t.used w) c (length (concat cs)) p) in
    e ∙ ap (λ (z : Text). t.wrote ++ z) (i ∙ ap (owed t.state) (append_assoc (drop t.used w) c (concat cs)))
    ∙ sym (goes-right s w false room (length (concat (c ∷ cs))) h Wanting (c ++ concat cs) q (λ b. clash cc))
run-right {s = s} {w = w} (ends room q r e) f h =
    let i = run-right r (λ b. refl) (counted_next s w false 0 room h) in
    e ∙ ap (λ (z : Text). (turned s w false room).wrote ++ z) i ∙ sym (goes-right s w false room 0 h Wanting [] q (λ b. refl))

-- for every way of cutting a recording into pieces, and whatever room each turn has
pub run-replays : (cs : List Text) (o : Text) → length (concat cs) ≤ max_count → Runs beginning [] false cs o → heading ++ o ≡ replayed (concat cs)
unfolding replayed
run-replays cs o h r = ap (λ (z : Text). heading ++ z) (run-right r (λ b. clash cc) (record { count = omega arith; refused = omega arith }))

-- a byte at a time too
abbrev pub singly : Text → List Text
singly x = map (λ (b : ℕ). b ∷ []) x

concat-singly : (x : Text) → concat (singly x) ≡ x
concat-singly [] = refl
concat-singly (b ∷ x) = ap (λ (z : Text). b ∷ z) (concat-singly x)

pub run-singly : (x o : Text) → length x ≤ max_count → Runs beginning [] false (singly x) o → heading ++ o ≡ replayed x
run-singly x o h r = run-replays (singly x) o (rw (concat-singly x) h) r ∙ ap replayed (concat-singly x)

-- ---- it comes to its end

pub record SomeRun (s : State) (w : Text) (ended : Bool) (cs : List Text) : Type 0 where
  pub wrote : Text
  pub run : Runs s w ended cs wrote

module _ (room : ℕ) (r : line_room ≤ room) where
  -- over one window: full turns, each of which uses a byte, until bytes are wanted or it is over
  module _ (ended : Bool) (cs : List Text)
      (wants : (s : State) (w : Text) → Counted s (length w + length (concat cs)) → (turned s w ended room).why ≡ Wanting → SomeRun s w ended cs) where
    window-by :
        (s : State) (w : Text) (a : Why) → (turned s w ended room).why ≡ a → Counted s (length w + length (concat cs))
        → ((turned s w ended room).why ≡ Full → SomeRun (turned s w ended room).state (drop (turned s w ended room).used w) ended cs)
        → SomeRun s w ended cs
    window-by s w Wanting q h next = wants s w h q
    window-by s w Full q h next = let n = next q in record { wrote = (turned s w ended room).wrote ++ n.wrote; run = full room q n.run refl }
    window-by s w Over q h next = record { wrote = (turned s w ended room).wrote; run = over room q refl }

    window-runs : (k : ℕ) (s : State) (w : Text) → length w < k → Counted s (length w + length (concat cs)) → SomeRun s w ended cs
    window-runs zero s w l h = absurd (omega arith)
    window-runs (suc k) s w l h =
        window-by s w (turned s w ended room).why refl h
        (λ q. let u : 1 ≤ (turned s w ended room).used = turned-uses s w ended room (counted_is s w ended (length (concat cs)) room h) r q in
        window-runs k (turned s w ended room).state (drop (turned s w ended room).used w)
        (omega (arith, left s w ended (length (concat cs)) room h, (kept s w ended (length (concat cs)) room h).within))
        (counted_next s w ended (length (concat cs)) room h))

  ended-runs : (s : State) (w : Text) → Counted s (length w + 0) → SomeRun s w true []
  ended-runs s w h = window-runs true [] (λ t v i q. absurd (true≢false (turned-wanting t v true room q).0)) (suc (length w)) s w (omega arith) h

  pieces-run : (cs : List Text) (s : State) (w : Text) → Counted s (length w + length (concat cs)) → SomeRun s w false cs
  pieces-run [] s w h =
      window-runs false []
      (λ t v i q. let n = ended-runs (turned t v false room).state (drop (turned t v false room).used v) (counted_next t v false 0 room i) in
      record { wrote = (turned t v false room).wrote ++ n.wrote; run = ends room q n.run refl })
      (suc (length w)) s w (omega arith) h
  pieces-run (c ∷ cs) s w h =
      window-runs false (c ∷ cs)
      (λ t v i q. let u : Turned = turned t v false room in
      let n = pieces-run cs (turned t v false room).state (drop (turned t v false room).used v ++ c)
      (counted-read (turned t v false room).state (drop (turned t v false room).used v) c (length (concat cs))
      (counted_next t v false (length c + length (concat cs)) room (counted-piece t v c cs i))) in
      record { wrote = (turned t v false room).wrote ++ n.wrote; run = reads room q n.run refl })
      (suc (length w)) s w (omega arith) h

  -- a run over any pieces, where each turn has room for a line
  pub runs-end : (cs : List Text) → length (concat cs) ≤ max_count → SomeRun beginning [] false cs
  runs-end cs h = pieces-run cs beginning [] (record { count = omega arith; refused = omega arith })
