-- The bytes held, from turn to turn, and the run that they lead on. Assumes nothing.
use mathlib.Core.Path.{◌≡◌, refl, sym, ap, subst, ◌∙◌}
use Prim.Native.Nat.{ℕ, ◌+◌, ◌-◌, ◌≤◌, ◌<◌}
use native.Mathlib.Omega.{arith}
use mathlib.Core.Bool.{Bool, true, false, true≢false}
use mathlib.Core.List.{List, [], ◌∷◌, ◌++◌, append_assoc, append-nil}
use lib.ListN.{length, take, drop, length-drop}
use Rattle.std.proofs.lemmas.List.{drop-take}
use lib.Seq.{take-append-add, take-append-le, take_at, length-take-le, drop-drop}
use borrow.Author.Tests.{le-leb, ne_eqb}
use borrow.Rule.Slice.PartMut.{put_mid, post_of, same_len_mid, mid_len}
use Rattle.std.specs.Prelude.{Option, Some, None}
use Rattle.std.specs.declared.io.Error.{Error}
use Rattle.cel_text.specs.Byte.{Text}
use Rattle.lines.specs.Input.{brought_front}
use Rattle.recording.specs.declared.State.{State}
use Rattle.recording.specs.declared.Turn.{Turn}
use Rattle.recording.specs.declared.Why.{Why}
use Rattle.recording.specs.declared.Why.TheVariants.{Wanting, Full, Over}
use Rattle.recording.specs.Turn.{beginning, turned, turn_of, Runs, full, reads, ends}
use Rattle.recording.proofs.Laws.Event.{most_held}
use Rattle.recording.proofs.Laws.Turn.{turned-within, turned-wanting}
use Rattle.replay.specs.declared.window.Held.{Held}
use Rattle.replay.specs.Window.{Inside, window_of, Brought, Reads, Read, Next, Follows, Asks, Leads}

abbrev held_as : (at end : ℕ) (ended : Bool) (failed : Option Error) → Held
held_as at end ended failed = record { at = at; end = end; ended = ended; failed = failed }

-- ---- a read

module _ (input part : Text) (kept more : ℕ) (h : kept ≤ length input) (l : length part ≡ length input - kept) (m : more ≤ length part) where
  read-window : take (kept + more - 0) (put_mid kept (length input - kept) input part) ≡ take kept input ++ take more part
  read-window =
      let e : kept + more - 0 ≡ length (take kept input) + more = rw (length-take-le kept input h) (omega arith) in
      let rest : Text = post_of kept (length input - kept) input in
      rw e (take-append-add (take kept input) (part ++ rest) more ∙ ap (λ (z : Text). take kept input ++ z) (take-append-le more part rest m))

  read_length : length (put_mid kept (length input - kept) input part) ≡ length input
  read_length = same_len_mid kept (length input - kept) input part (l ∙ sym (mid_len kept (length input) input (omega arith)))

  pub read-brings : (ended : Bool) (failed : Option Error) → Brought failed (take more part) ended
      → Read kept input (put_mid kept (length input - kept) input part) (held_as 0 (kept + more) ended failed)
  read-brings ended failed f =
      record {
        inside = record { ordered = omega arith; room = rw read_length (omega arith) };
        reads = record { piece = take more part; read = read-window; brought = f };
      }

-- after the bytes kept were brought to the front
pub refilled : (input input' : Text) (at end : ℕ) (r : Held) → at ≤ end → end ≤ length input → Read (end - at) (brought_front input at end) input' r
    → Inside input' r × Reads (take (end - at) (drop at input)) (window_of input' r) r.ended r.failed
refilled input input' at end r h l d =
    let part : Text = take (end - at) (drop at input) in
    let long : length (take (end - at) (drop at input)) ≡ end - at = length-take-le (end - at) (drop at input) (simp length-drop (omega arith)) in
    let e : brought_front input at end ≡ take (end - at) (drop at input) ++ drop (end - at) input = rw (le-leb end (length input) l) in
    let f : take (end - at) (brought_front input at end) ≡ take (end - at) (drop at input) =
    ap (take (end - at)) e ∙ take_at (take (end - at) (drop at input)) (drop (end - at) input) (end - at) long in
    (d.inside, subst (λ (x : Text). Reads x (window_of input' r) r.ended r.failed) f d.reads)

-- ---- from turn to turn

-- the bytes that a turn left
left-window : (input : Text) (at end used : ℕ) → at + used ≤ end → take (end - (at + used)) (drop (at + used) input) ≡ drop used (take (end - at) (drop at input))
left-window input at end used h =
    let e : end - at ≡ used + (end - (at + used)) = omega arith in
    sym (ap (λ (k : ℕ). drop used (take k (drop at input))) e ∙ drop-take used (end - (at + used)) (drop at input)
    ∙ ap (take (end - (at + used))) (drop-drop used at input))

next-behind : (a : Why) (rest window : Text) (ended ended' : Bool) (failed : Option Error) → (a ≡ Wanting → ⊥) → window ≡ rest → ended' ≡ ended → Next a rest ended window ended' failed
next-behind Wanting rest window ended ended' failed n w e = absurd (n refl)
next-behind Full rest window ended ended' failed n w e = (w, e)
next-behind Over rest window ended ended' failed n w e = (w, e)

module _ (input : Text) (h : Held) (turn : Turn) (a : Asks input h turn) where
  behind-window : window_of input (held_as (h.at + turn.used) h.end h.ended None) ≡ drop turn.used (window_of input h)
  behind-window = left-window input h.at h.end turn.used a.used

  behind-inside : Inside input (held_as (h.at + turn.used) h.end h.ended None)
  behind-inside = record { ordered = a.used; room = a.inside.room }

  pub follows-behind : (turn.why ≡ Wanting → ⊥) → Follows input h turn input (held_as (h.at + turn.used) h.end h.ended None)
  follows-behind q = record { inside = behind-inside; next = next-behind turn.why _ _ _ _ _ q behind-window refl }

  pub follows-read : (input' : Text) (r : Held) → turn.why ≡ Wanting
      → Inside input' r × Reads (take (h.end - (h.at + turn.used)) (drop (h.at + turn.used) input)) (window_of input' r) r.ended r.failed → Follows input h turn input' r
  follows-read input' r q d =
      record {
        inside = d.0;
        next = rw q (subst (λ (x : Text). Reads x (window_of input' r) r.ended r.failed) (left-window input h.at h.end turn.used a.used) d.1);
      }

-- ---- a turn over the bytes held

window-length : (input : Text) (h : Held) → Inside input h → length (window_of input h) ≡ h.end - h.at
window-length input h i = length-take-le (h.end - h.at) (drop h.at input) (simp length-drop (omega (arith, i.ordered, i.room)))

module _ (s : State) (input : Text) (h : Held) (room : ℕ) (i : Inside input h) (m : most_held < length input) where
  asks-turned : Asks input h (turn_of (turned s (window_of input h) h.ended room))
  asks-turned =
      let w : Text = window_of input h in
      let n : length (window_of input h) ≡ h.end - h.at = window-length input h i in
      let u : (turned s (window_of input h) h.ended room).used ≤ length (window_of input h) = turned-within s w h.ended room in
      record {
        inside = i;
        used = omega (arith, n, u, i.ordered);
        room = λ q. let l : length (window_of input h) - (turned s (window_of input h) h.ended room).used ≤ most_held = (turned-wanting s w h.ended room q).1 in omega (arith, n, l);
      }

  pub asks : (turn : Turn) → turn ≡ turn_of (turned s (window_of input h) h.ended room) → Asks input h turn
  asks turn e = rw e asks-turned

-- ---- the run

-- at the end of the input nothing was read
nothing-read : (failed : Option Error) (piece : Text) (ended : Bool) → Brought failed piece ended → ended ≡ true → piece ≡ []
nothing-read None [] ended b e = refl
nothing-read None (x ∷ piece) ended b e = absurd (true≢false (sym e ∙ b ∙ ne_eqb (length (x ∷ piece)) 0 (λ n. omega (arith, n))))
nothing-read (Some error) piece ended b e = b.0

-- before the first turn nothing is read and nothing written
leads-none : Leads beginning [] false
leads-none = record { read = []; wrote = []; leads = λ cs o f r. r }

pub leads-first : (input : Text) (s : State) (h : Held) → s ≡ beginning → h.at ≡ 0 → h.end ≡ 0 → h.ended ≡ false → Leads s (window_of input h) h.ended
leads-first input s h e a z n = rw (e, a, z, n) leads-none

module _ (s : State) (w : Text) (ended : Bool) (room : ℕ) (l : Leads s w ended) where
  -- the turn and what it leaves
  leads-full : (turned s w ended room).why ≡ Full → Leads (turned s w ended room).state (drop (turned s w ended room).used w) ended
  leads-full q =
      record {
        read = l.read;
        wrote = l.wrote ++ (turned s w ended room).wrote;
        leads =
            λ cs o f r. subst (λ (x : Text). Runs beginning [] false (l.read ++ cs) x) (sym (append_assoc l.wrote (turned s w ended room).wrote o))
            (l.leads cs ((turned s w ended room).wrote ++ o) f (full room q r refl));
      }

module _ (s : State) (w : Text) (room : ℕ) (l : Leads s w false) (q : (turned s w false room).why ≡ Wanting) where
  leads-piece : (c : Text) → Leads (turned s w false room).state (drop (turned s w false room).used w ++ c) false
  leads-piece c =
      record {
        read = l.read ++ (c ∷ []);
        wrote = l.wrote ++ (turned s w false room).wrote;
        leads =
            λ cs o f r. rw (append_assoc l.read (c ∷ []) cs, append_assoc l.wrote (turned s w false room).wrote o)
            (l.leads (c ∷ cs) ((turned s w false room).wrote ++ o) (λ e. absurd (true≢false (sym e))) (reads room q r refl));
      }

  leads-end : Leads (turned s w false room).state (drop (turned s w false room).used w) true
  leads-end =
      record {
        read = l.read;
        wrote = l.wrote ++ (turned s w false room).wrote;
        leads =
            λ cs o f r. rw (f refl, append_assoc l.wrote (turned s w false room).wrote o)
            (l.leads [] ((turned s w false room).wrote ++ o) (λ e. absurd (true≢false (sym e)))
            (ends room q (subst (λ (x : List Text). Runs (turned s w false room).state (drop (turned s w false room).used w) true x o) (f refl) r) refl));
      }

  leads-read : (w' : Text) (ended' : Bool) (failed : Option Error) → Reads (drop (turned s w false room).used w) w' ended' failed → Leads (turned s w false room).state w' ended'
  leads-read w' false failed d = rw d.read (leads-piece d.piece)
  leads-read w' true failed d =
      rw (d.read ∙ ap (λ (z : Text). drop (turned s w false room).used w ++ z) (nothing-read failed d.piece true d.brought refl) ∙ append-nil (drop (turned s w false room).used w)) leads-end

leads-wanting : (s : State) (w : Text) (ended : Bool) (room : ℕ) → Leads s w ended → (turned s w ended room).why ≡ Wanting → (w' : Text) (ended' : Bool) (failed : Option Error)
    → Reads (drop (turned s w ended room).used w) w' ended' failed → Leads (turned s w ended room).state w' ended'
leads-wanting s w false room l q w' ended' failed d = leads-read s w room l q w' ended' failed d
leads-wanting s w true room l q w' ended' failed d = absurd (true≢false (turned-wanting s w true room q).0)

leads-by : (s : State) (w : Text) (ended : Bool) (room : ℕ) → Leads s w ended → (a : Why) → (turned s w ended room).why ≡ a → (a ≡ Over → ⊥)
    → (w' : Text) (ended' : Bool) (failed : Option Error) → Next a (drop (turned s w ended room).used w) ended w' ended' failed
    → Leads (turned s w ended room).state w' ended'
leads-by s w ended room l Wanting q f w' ended' failed n = leads-wanting s w ended room l q w' ended' failed n
leads-by s w ended room l Full q f w' ended' failed n = rw (n.0, n.1) (leads-full s w ended room l q)
leads-by s w ended room l Over q f w' ended' failed n = absurd (f refl)

-- after a turn that is not the last, and what follows it
pub leads-next : (s : State) (input : Text) (h : Held) (room : ℕ) (turn : Turn) (input' : Text) (r : Held) → Leads s (window_of input h) h.ended
    → turn ≡ turn_of (turned s (window_of input h) h.ended room) → (turn.why ≡ Over → ⊥) → Follows input h turn input' r
    → Leads turn.state (window_of input' r) r.ended
leads-next s input h room turn input' r l e f d =
    rw e
    (leads-by s (window_of input h) h.ended room l (turned s (window_of input h) h.ended room).why refl (rw e at f) (window_of input' r) r.ended r.failed (rw e at d.next))
