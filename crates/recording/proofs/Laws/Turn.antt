-- A turn: what it writes and what is owed after it is what was owed before; it fits its room, and goes on as far as it can. Assumes nothing.
use Rattle.std.specs.Prelude.{◌≡◌, refl, ℕ, zero, suc, ◌+◌, ◌-◌, ◌≤◌, ◌<◌, Bool, true, false, [], ◌++◌, leb, eqb}
use Rattle.std.proofs.Math.Path.{sym, ap}
use Rattle.std.proofs.Common.{subst, ◌∙◌, arith, append_assoc, length-append, drop-drop, le-leb, leb-true}
use Rattle.std.proofs.Math.ListN.{length, drop, length-drop}
use borrow.Table.Steps.{cases}
use Rattle.cel_text.specs.Byte.{Text}
use Rattle.cel_text.proofs.Laws.Class.{by-test, both_true}
use Rattle.cel_text.proofs.Laws.Limit.{clash}
use Rattle.recording.specs.declared.reply.Reply.{Reply}
use Rattle.recording.specs.declared.State.{State}
use Rattle.recording.specs.declared.Why.{Why}
use Rattle.recording.specs.declared.Why.TheVariants.{Wanting as Wants, Full, Over}
use Rattle.recording.specs.declared.window.Event.{Event}
use Rattle.recording.specs.declared.window.Event.TheVariants.{Body, Skipping, Skipped, Wanting, Last}
use Rattle.recording.specs.Replay.{reply_to, too_long, refusals}
use Rattle.recording.specs.Window.{event, part, says, takes, becomes, goes, owed, owed_as}
use Rattle.recording.specs.Turn.{Turned, begun, stepped, line_room, onward, turn_from, max_count, countable, turned}
use Rattle.recording.proofs.Laws.Event.{event-right, most_held, Moves, event-moves}
use Rattle.recording.proofs.Laws.Lengths.{says-short}

-- what holds of a turn, over the bytes held, that began in state s₀: `held` bytes can be counted from there
module _ (s₀ : State) (held : Text) (ended : Bool) (room : ℕ) where
  -- what is written so far and what is owed for the bytes left and those to come is what was owed in the beginning; as many bytes as records are used; what
  -- is written has room; and why it stopped
  pub record Kept (t : Turned) : Type 0 where
    pub right : (y : Text) → (ended ≡ true → y ≡ []) → owed s₀ (held ++ y) ≡ t.wrote ++ owed_as t.why t.state (drop t.used held ++ y)
    pub within : t.used ≤ length held
    pub count : t.state.count + (length held - t.used) ≤ s₀.count + length held
    pub refused : t.state.refused + (length held - t.used) ≤ s₀.refused + length held
    pub fits : length t.wrote ≤ room
    pub wanting : t.why ≡ Wants → (ended ≡ false) × (length held - t.used ≤ most_held)

  pub kept-begun : Kept (begun s₀)
  kept-begun =
      record {
        right = λ y h. refl;
        within = omega arith;
        count = omega arith;
        refused = omega arith;
        fits = omega arith;
        wanting = λ e. clash cc;
      }

-- an event uses no more bytes than there are, and at least as many as it counts records
refusals-most : (n : ℕ) (r : Reply) → refusals n r ≤ suc n
refusals-most n r = by-test (λ (k : ℕ). k ≤ suc n) (eqb r.answer 0) n (suc n) (λ t. omega arith) (λ t. omega arith)

pub record Uses (s : State) (held : ℕ) (w : Text) (ended : Bool) (e : Event) : Type 0 where
  pub within : takes e ≤ held
  pub count : (becomes s w e).count ≤ s.count + takes e
  pub refused : (becomes s w e).refused ≤ s.refused + takes e
  pub some : goes e ≡ Full → 1 ≤ takes e
  pub wanting : goes e ≡ Wants → (ended ≡ false) × (held ≤ most_held) × (takes e ≡ 0)

no_more : {P : Type 0} {a : Why} → a ≡ Full → a ≡ Wants → P
no_more e f = clash cc

not_full : {P : Type 0} → Wants ≡ Full → P
not_full e = clash cc

over-full : {P : Type 0} → Over ≡ Full → P
over-full e = clash cc

over-wants : {P : Type 0} → Over ≡ Wants → P
over-wants e = clash cc

moves-uses : (s : State) (w : Text) (ended : Bool) (e : Event) → Moves (length w) ended e → Uses s (length w) w ended e
moves-uses s w ended (Body from to) m =
    record {
      within = m.2;
      count = omega (arith, m.1);
      refused = omega (arith, m.1, refusals-most s.refused (reply_to (part from to w)));
      some = λ e. m.1;
      wanting = λ e. no_more refl e;
    }
moves-uses s w ended (Skipping to left) m =
    record { within = m.1; count = omega arith; refused = omega arith; some = λ e. m.0; wanting = λ e. no_more refl e }
moves-uses s w ended (Skipped to) m =
    record {
      within = m.1;
      count = omega (arith, m.0);
      refused = omega (arith, m.0, refusals-most s.refused too_long);
      some = λ e. m.0;
      wanting = λ e. no_more refl e;
    }
moves-uses s w ended Wanting m =
    record { within = omega arith; count = omega arith; refused = omega arith; some = λ e. not_full e; wanting = λ e. (m.0, m.1, refl) }
moves-uses s w ended (Last x) m =
    record { within = omega arith; count = omega arith; refused = omega arith; some = λ e. over-full e; wanting = λ e. over-wants e }

pub event-uses : (s : State) (w : Text) (ended : Bool) → Uses s (length w) w ended (event s.skip w ended)
event-uses s w ended = moves-uses s w ended (event s.skip w ended) (event-moves w ended s.skip)

-- what holds of a turn that stops here, and of what comes after it where it goes on, holds of what is made of it
onward-by : (P : Turned → Type 0) (next : Turned → Turned) (t : Turned) (a : Why) → t.why ≡ a → P t → (t.why ≡ Full → P (next t)) → P (onward next t a)
onward-by P next t Wants e p f = p
onward-by P next t Full e p f = f e
onward-by P next t Over e p f = p

pub onward-holds : (P : Turned → Type 0) (next : Turned → Turned) (t : Turned) → P t → (t.why ≡ Full → P (next t)) → P (onward next t t.why)
onward-holds P next t p f = onward-by P next t t.why refl p f

-- ---- a step

step_from : (t : Turned) (held : Text) (ended : Bool) → t.used ≤ (stepped t held ended).used
unfolding stepped
step_from t held ended = omega arith

module _ (s₀ : State) (held : Text) (ended : Bool) (room : ℕ) (small : s₀.count + length held ≤ max_count) (few : s₀.refused + length held ≤ max_count) where
  module _ (t : Turned) (k : Kept s₀ held ended room t) (live : t.why ≡ Full) where
    step_right :
        (y : Text) → (ended ≡ true → y ≡ [])
        → owed s₀ (held ++ y) ≡ (stepped t held ended).wrote ++ owed_as (stepped t held ended).why (stepped t held ended).state (drop (stepped t held ended).used held ++ y)
    unfolding stepped
    step_right y h =
        let w : Text = drop t.used held in
        let e : Event = event t.state.skip (drop t.used held) ended in
        let o : owed_as t.why t.state (drop t.used held ++ y) ≡ owed t.state (drop t.used held ++ y) = rw live in
        k.right y h ∙ ap (λ (z : Text). t.wrote ++ z) (o ∙ event-right t.state (drop t.used held) y ended h)
        ∙ sym (append_assoc t.wrote (says t.state w e) (owed_as (goes e) (becomes t.state w e) (drop (takes e) w ++ y)))
        ∙ ap (λ (z : Text). (t.wrote ++ says t.state w e) ++ owed_as (goes e) (becomes t.state w e) (z ++ y)) (drop-drop (takes e) t.used held)

    -- a step keeps it, where there is room for a line
    pub kept_step : line_room ≤ room - length t.wrote → Kept s₀ held ended room (stepped t held ended)
    unfolding stepped
    kept_step r =
        let w : Text = drop t.used held in
        let e : Event = event t.state.skip (drop t.used held) ended in
        let u : Uses t.state (length (drop t.used held)) (drop t.used held) ended (event t.state.skip (drop t.used held) ended) =
        event-uses t.state (drop t.used held) ended in
        let l : length (drop t.used held) ≡ length held - t.used = length-drop t.used held in
        let b : length (says t.state w e) ≤ line_room = says-short t.state w e (omega (arith, k.count)) (omega (arith, k.refused)) in
        record {
          right = step_right;
          within = omega (arith, k.within, u.within);
          count = omega (arith, k.within, k.count, u.within, u.count);
          refused = omega (arith, k.within, k.refused, u.within, u.refused);
          fits = rw (length-append t.wrote (says t.state w e)) (omega (arith, k.fits));
          wanting = λ q. ((u.wanting q).0, omega (arith, (u.wanting q).1, (u.wanting q).2));
        }

    -- and uses a byte, where the turn goes on
    pub step-uses : (stepped t held ended).why ≡ Full → t.used < (stepped t held ended).used
    unfolding stepped
    step-uses q = omega (arith, (event-uses t.state (drop t.used held) ended).some q)

  -- ---- a turn

  turn-kept : (most : ℕ) (t : Turned) → Kept s₀ held ended room t → t.why ≡ Full → Kept s₀ held ended room (turn_from most held ended room t)
  turn-kept zero t k live = k
  turn-kept (suc most) t k live =
      cases (leb line_room (room - length t.wrote))
      (λ b. let j = kept_step t k live (leb-true line_room (room - length t.wrote) b) in
      rw b (onward-holds (Kept s₀ held ended room) (λ (v : Turned). turn_from most held ended room v) (stepped t held ended) j (λ q. turn-kept most (stepped t held ended) j q)))
      (λ b. rw b k)

  pub turns-kept : Kept s₀ held ended room (turn_from (suc (length held)) held ended room (begun s₀))
  turns-kept = turn-kept (suc (length held)) (begun s₀) (kept-begun s₀ held ended room) refl

  -- no byte used is given back
  further : (most : ℕ) (t : Turned) → t.used ≤ (turn_from most held ended room t).used
  further zero t = omega arith
  further (suc most) t =
      let u : Turned = stepped t held ended in
      cases (leb line_room (room - length t.wrote))
      (λ b. rw b (onward-holds (λ (v : Turned). t.used ≤ v.used) (λ (v : Turned). turn_from most held ended room v) (stepped t held ended)
      (step_from t held ended)
      (λ q. omega (arith, step_from t held ended, further most (stepped t held ended)))))
      (λ b. rw b (omega arith))

  -- where there is room for a line in the beginning, a turn that is full has used a byte
  pub full-uses : line_room ≤ room → (turn_from (suc (length held)) held ended room (begun s₀)).why ≡ Full → 1 ≤ (turn_from (suc (length held)) held ended room (begun s₀)).used
  full-uses r =
      let k = kept-begun s₀ held ended room in
      rw (le-leb line_room (room - 0) (omega arith))
      (onward-holds (λ (v : Turned). v.why ≡ Full → 1 ≤ v.used) (λ (v : Turned). turn_from (length held) held ended room v) (stepped (begun s₀) held ended)
      (λ f. omega (arith, step-uses (begun s₀) k refl f))
      (λ q f. omega (arith, step-uses (begun s₀) k refl q, further (length held) (stepped (begun s₀) held ended))))

-- ---- what `advance` answers

module _ (s : State) (held : Text) (ended : Bool) (room : ℕ) where
  -- a state that counts too far: nothing is done
  pub turned-not : countable s (length held) ≡ false → turned s held ended room ≡ record { state = s; used = 0; wrote = []; why = Over }
  unfolding turned
  turned-not e = rw e

  pub turned-is : countable s (length held) ≡ true → turned s held ended room ≡ turn_from (suc (length held)) held ended room (begun s)
  unfolding turned
  turned-is e = rw e

  -- from a state that does not
  module _ (e : countable s (length held) ≡ true) where
    small : s.count + length held ≤ max_count
    small = leb-true (s.count + length held) max_count (both_true (leb (s.count + length held) max_count) (leb (s.refused + length held) max_count) e).0

    few : s.refused + length held ≤ max_count
    few = leb-true (s.refused + length held) max_count (both_true (leb (s.count + length held) max_count) (leb (s.refused + length held) max_count) e).1

    pub turned-kept : Kept s held ended room (turned s held ended room)
    turned-kept = subst (Kept s held ended room) (sym (turned-is e)) (turns-kept s held ended room small few)

    pub turned-uses : line_room ≤ room → (turned s held ended room).why ≡ Full → 1 ≤ (turned s held ended room).used
    turned-uses r = rw (turned-is e) (full-uses s held ended room small few r)

  -- whatever the state is: no more bytes are used than are held, no more are written than there is room for, and where more are wanted few are left
  pub turned-within : (turned s held ended room).used ≤ length held
  turned-within = cases (countable s (length held)) (λ e. (turned-kept e).within) (λ e. rw (turned-not e) (omega arith))

  pub turned-fits : length (turned s held ended room).wrote ≤ room
  turned-fits = cases (countable s (length held)) (λ e. (turned-kept e).fits) (λ e. rw (turned-not e) (omega arith))

  pub turned-wanting : (turned s held ended room).why ≡ Wants → (ended ≡ false) × (length held - (turned s held ended room).used ≤ most_held)
  turned-wanting = cases (countable s (length held)) (λ e q. (turned-kept e).wanting q) (λ e q. over-wants (sym (ap (λ (t : Turned). t.why) (turned-not e)) ∙ q))
