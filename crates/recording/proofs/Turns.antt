-- A turn, step by step. Assumes nothing.
use mathlib.Core.Path.{◌≡◌, refl, sym, ap, subst, ◌∙◌}
use Prim.Native.Nat.{ℕ, zero, suc, ◌+◌, ◌-◌, ◌≤◌, ◌<◌}
use native.Mathlib.Nat.{add-zero}
use native.Mathlib.Omega.{arith}
use mathlib.Core.Bool.{Bool, true, false}
use mathlib.Core.List.{[], ◌++◌}
use lib.ListN.{length, take, drop, length-append, length-drop}
use lib.Seq.{take_all}
use lib.Dec.{leb}
use borrow.Author.Tests.{le-leb, leb-true}
use Rattle.cel_text.specs.Byte.{Text}
use Rattle.cel_text.proofs.Laws.Class.{both_true}
use Rattle.pieces.specs.Pieces.{Wrote}
use Rattle.pieces.specs.Laws.{wrote_none, wrote_then, wrote-length, wrote-whole}
use Rattle.recording.specs.declared.Ending.{Ending}
use Rattle.recording.specs.declared.reply.Reply.{Reply}
use Rattle.recording.specs.declared.State.{State}
use Rattle.recording.specs.declared.Turn.{Turn}
use Rattle.recording.specs.declared.Why.{Why}
use Rattle.recording.specs.declared.Why.TheVariants.{Wanting as Wants, Full, Over}
use Rattle.recording.specs.declared.window.Event.{Event}
use Rattle.recording.specs.declared.window.Event.TheVariants.{Body, Skipping, Skipped, Wanting, Last}
use Rattle.recording.specs.Replay.{reply_to, too_long, last_line}
use Rattle.recording.specs.Window.{event, part, says, takes, becomes, goes, skipping_on}
use Rattle.recording.specs.Turn.{Turned, begun, stepped, line_room, onward, turn_from, max_count, countable, turned, turn_of}
use Rattle.recording.specs.Steps.{Counts, turn_at, Answered, After, Stepped, turns, Drained}
use Rattle.recording.proofs.Laws.Event.{Moves, event-moves}
use Rattle.recording.proofs.Laws.Lengths.{says-short}
use Rattle.recording.proofs.Laws.Turn.{Kept, kept-begun, kept_step, step-uses, turned-not, turned-is}

-- ---- one step

pub moved : (k : ℕ) (w : Text) (ended : Bool) (e : Event) → e ≡ event k w ended → Moves (length w) ended e
moved k w ended e q = subst (Moves (length w) ended) (sym q) (event-moves w ended k)

module _ (t r : Turn) (w out out' : Text) where
  pub body-after : (from to : ℕ) (a : Reply) → a ≡ reply_to (part from to w) → Answered t to a out out' r → After t w (Body from to) out out' r
  body-after from to a e h = record { turn = rw e at h.turn; wrote = rw e at h.wrote }

  pub skipped-after : (to : ℕ) (a : Reply) → a ≡ too_long → Answered t to a out out' r → After t w (Skipped to) out out' r
  skipped-after to a e h = record { turn = rw e at h.turn; wrote = rw e at h.wrote }

  pub last-after : (e : Ending) (end : ℕ) → r ≡ turn_at t.state t.used end Over → Wrote out out' t.written end (last_line t.state.count t.state.refused e)
      → After t w (Last e) out out' r
  last-after e end q h = rw q (record { turn = rw add-zero; wrote = h })

module _ (t r : Turn) (w out : Text) where
  pub skipping-after : (to left : ℕ) → r ≡ turn_at (skipping_on t.state left) (t.used + to) t.written Full → After t w (Skipping to left) out out r
  skipping-after to left q = rw q (record { turn = refl; wrote = wrote_none out t.written })

  pub wanting-after : r ≡ turn_at t.state t.used t.written Wants → After t w Wanting out out r
  wanting-after q = rw q (record { turn = rw add-zero; wrote = wrote_none out t.written })

pub after-as : (t r : Turn) (w out out' : Text) (e e' : Event) → e ≡ e' → After t w e out out' r → After t w e' out out' r
after-as t r w out out' e e' q h = subst (λ (x : Event). After t w x out out' r) q h

-- ---- the loop

stops : (next : Turned → Turned) (t : Turned) (a : Why) → (a ≡ Full → ⊥) → onward next t a ≡ t
stops next t Wants e = refl
stops next t Full e = absurd (e refl)
stops next t Over e = refl

goes_on : (next : Turned → Turned) (t : Turned) (a : Why) → a ≡ Full → onward next t a ≡ next t
goes_on next t a e = ap (onward next t) e

-- the bytes not yet used
pub rest_all : (held : Text) (from : ℕ) → take (length held - from) (drop from held) ≡ drop from held
rest_all held from = take_all (length held - from) (drop from held) (simp length-drop (omega arith))

module _ (s : State) (held : Text) (ended : Bool) (out₀ : Text) where
  -- where the loop stands: after some of the turn's steps
  pub record Going (out : Text) (turn : Turn) : Type 0 where
    pub t : Turned
    pub most : ℕ
    pub told : turn ≡ turn_of t
    pub wrote : Wrote out₀ out 0 (length t.wrote) t.wrote
    pub kept : Kept s held ended (length out₀) t
    pub live : t.why ≡ Full
    pub same : turns s held ended (length out₀) ≡ turn_from (suc most) held ended (length out₀) t
    pub enough : length held - t.used ≤ most

  pub going-first : Going out₀ (turn_at s 0 0 Full)
  going-first =
      record {
        t = begun s;
        most = length held;
        told = refl;
        wrote = wrote_none out₀ 0;
        kept = kept-begun s held ended (length out₀);
        live = refl;
        same = refl;
        enough = omega arith;
      }

  -- where it stands after one more step, before which `from` bytes were used
  pub record Went (from : ℕ) (out : Text) (turn : Turn) : Type 0 where
    pub t : Turned
    pub most : ℕ
    pub told : turn ≡ turn_of t
    pub wrote : Wrote out₀ out 0 (length t.wrote) t.wrote
    pub kept : Kept s held ended (length out₀) t
    pub same : turns s held ended (length out₀) ≡ onward (λ (v : Turned). turn_from most held ended (length out₀) v) t t.why
    pub further : t.why ≡ Full → from < t.used
    pub enough : t.why ≡ Full → length held - t.used < most

  module _ (c : Counts s 0 (length held)) where
    went-by :
        (out out' : Text) (t : Turned) (most : ℕ) (r : Turn) → Wrote out₀ out 0 (length t.wrote) t.wrote → Kept s held ended (length out₀) t → t.why ≡ Full
        → turns s held ended (length out₀) ≡ turn_from (suc most) held ended (length out₀) t → length held - t.used ≤ most
        → line_room ≤ length out₀ - length t.wrote → Stepped (turn_of t) (drop t.used held) ended out out' r → Went t.used out' r
    unfolding stepped
    went-by out out' t most r p k live q l b a =
        let w : Text = drop t.used held in
        let e : Event = event t.state.skip (drop t.used held) ended in
        let n : length (says t.state (drop t.used held) e) ≤ line_room =
        says-short t.state (drop t.used held) e (omega (arith, k.count, c.count)) (omega (arith, k.refused, c.refused)) in
        let o : length out ≡ length out₀ = wrote-length p in
        let f : length t.wrote + length (says t.state (drop t.used held) e) ≤ length out = omega (arith, k.fits) in
        let z : r.written ≡ length (t.wrote ++ says t.state (drop t.used held) e) =
        (wrote-whole a.wrote f).0 ∙ sym (length-append t.wrote (says t.state (drop t.used held) e)) in
        let j : Kept s held ended (length out₀) (stepped t held ended) = kept_step s held ended (length out₀) c.count c.refused t k live b in
        record {
          t = stepped t held ended;
          most = most;
          told = a.turn ∙ ap (λ (m : ℕ). turn_at (becomes t.state w e) (t.used + takes e) m (goes e)) z;
          wrote = subst (λ (m : ℕ). Wrote out₀ out' 0 m (t.wrote ++ says t.state w e)) z (wrote_then p a.wrote);
          kept = j;
          same = q ∙ rw (le-leb line_room (length out₀ - length t.wrote) b);
          further = λ g. step-uses s held ended (length out₀) c.count c.refused t k live g;
          enough = λ g. omega (arith, step-uses s held ended (length out₀) c.count c.refused t k live g, j.within);
        }

    pub went : (out out' : Text) (turn r : Turn) (g : Going out turn) → line_room ≤ length out - turn.written
        → Stepped turn (take (length held - turn.used) (drop turn.used held)) ended out out' r → Went turn.used out' r
    went out out' turn r g b a =
        subst (λ (x : Turn). Went x.used out' r) (sym g.told)
        (went-by out out' g.t g.most r g.wrote g.kept g.live g.same g.enough
        (subst (λ (x : Turn). line_room ≤ length out₀ - x.written) g.told (rw (wrote-length g.wrote) at b))
        (subst (λ (x : Turn). Stepped x (drop x.used held) ended out out' r) g.told
        (subst (λ (x : Text). Stepped turn x ended out out' r) (rest_all held turn.used) a)))

  -- a step that goes on, and one that does not
  going-by :
      (out : Text) (turn : Turn) (t : Turned) (most : ℕ) → turn ≡ turn_of t → Wrote out₀ out 0 (length t.wrote) t.wrote → Kept s held ended (length out₀) t
      → turns s held ended (length out₀) ≡ onward (λ (v : Turned). turn_from most held ended (length out₀) v) t t.why
      → length held - t.used < most → t.why ≡ Full → Going out turn
  going-by out turn t zero e p k q l f = absurd (omega arith)
  going-by out turn t (suc most) e p k q l f =
      record {
        t = t;
        most = most;
        told = e;
        wrote = p;
        kept = k;
        live = f;
        same = q ∙ goes_on (λ (v : Turned). turn_from (suc most) held ended (length out₀) v) t t.why f;
        enough = omega arith;
      }

  full-why : (turn : Turn) (t : Turned) → turn ≡ turn_of t → turn.why ≡ Full → t.why ≡ Full
  full-why turn t e f = sym (ap (λ (x : Turn). x.why) e) ∙ f

  pub going_next : (from : ℕ) (out : Text) (turn : Turn) → Went from out turn → turn.why ≡ Full → Going out turn
  going_next from out turn g f =
      let w : g.t.why ≡ Full = full-why turn g.t g.told f in
      going-by out turn g.t g.most g.told g.wrote g.kept g.same (g.enough w) w

  drained-by :
      (out : Text) (turn : Turn) (t : Turned) → turn ≡ turn_of t → Wrote out₀ out 0 (length t.wrote) t.wrote → turns s held ended (length out₀) ≡ t
      → Drained s held ended out₀ out turn
  drained-by out turn t e p q =
      record {
        turn = e ∙ ap turn_of (sym q);
        wrote =
            subst (λ (u : Turned). Wrote out₀ out 0 turn.written u.wrote) (sym q)
            (subst (λ (x : Turn). Wrote out₀ out 0 x.written t.wrote) (sym e) p);
      }

  pub drained-stop : (from : ℕ) (out : Text) (turn : Turn) → Went from out turn → (turn.why ≡ Full → ⊥) → Drained s held ended out₀ out turn
  drained-stop from out turn g f =
      drained-by out turn g.t g.told g.wrote
      (g.same
      ∙ stops (λ (v : Turned). turn_from g.most held ended (length out₀) v) g.t g.t.why (λ e. f (ap (λ (x : Turn). x.why) g.told ∙ e)))

  -- a step that goes on uses a byte
  pub went-less : (from : ℕ) (out : Text) (turn : Turn) → Went from out turn → turn.why ≡ Full → length held - turn.used < length held - from
  went-less from out turn g f =
      rw g.told (omega (arith, g.kept.within, g.further (full-why turn g.t g.told f)))

-- ---- the whole

abbrev pub Advances : (s : State) (held : Text) (ended : Bool) (out out' : Text) (r : Turn) → Type 0
Advances s held ended out out' r =
    (r ≡ turn_of (turned s held ended (length out))) × Wrote out out' 0 r.written (turned s held ended (length out)).wrote

advances-as : (s : State) (held : Text) (ended : Bool) (out out' : Text) (r : Turn) (t : Turned) → turned s held ended (length out) ≡ t
    → (r ≡ turn_of t) × Wrote out out' 0 r.written t.wrote → Advances s held ended out out' r
advances-as s held ended out out' r t e h = subst (λ (u : Turned). (r ≡ turn_of u) × Wrote out out' 0 r.written u.wrote) (sym e) h

module _ (s : State) (held : Text) (ended : Bool) (out : Text) (r : Turn) (e : r ≡ turn_at s 0 0 Over) where
  pub halts : countable s (length held) ≡ false → Advances s held ended out out r
  halts f =
      advances-as s held ended out out r (record { state = s; used = 0; wrote = []; why = Over }) (turned-not s held ended (length out) f)
      (rw e (refl, wrote_none out 0))

module _ (s : State) (held : Text) (f : countable s (length held) ≡ true) where
  pub counts : length held ≤ max_count → Counts s 0 (length held)
  counts h =
      let both = both_true (leb (s.count + length held) max_count) (leb (s.refused + length held) max_count) f in
      record { count = leb-true (s.count + length held) max_count both.0; refused = leb-true (s.refused + length held) max_count both.1; used = omega arith }

  pub advances : (ended : Bool) (out out' : Text) (r : Turn) → Drained s held ended out out' r → Advances s held ended out out' r
  advances ended out out' r d =
      advances-as s held ended out out' r (turns s held ended (length out)) (turned-is s held ended (length out) f) (d.turn, d.wrote)
