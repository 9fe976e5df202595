-- One event: what is written for it and what is owed after it is what was owed before, whatever bytes come; and how far it goes. Assumes nothing.
use Rattle.std.specs.Prelude.{◌≡◌, refl, ℕ, suc, ◌+◌, ◌-◌, ◌≤◌, ◌<◌, Bool, true, false, cond, [], ◌∷◌, ◌++◌, length, take, drop, ltb, eqb, Result, Ok, Err}
use Rattle.std.proofs.Common.{sym, ap, ◌∙◌, arith, append-nil, length-append, length-drop, length-take-le, drop-drop, lt-ltb, le-ltb, ltb-true, ltb-false, ne_eqb, eqb-true}
use Rattle.std.proofs.lemmas.List.{take-append-le, drop-append-le}
use Rattle.std.proofs.Math.Seq.{drop-append-add, drop-length}
use Rattle.std.proofs.lemmas.Bool.{eqb-false}
use borrow.Table.Steps.{cases}
use Rattle.cel_text.specs.Byte.{Text}
use Rattle.cel_text.specs.Answer.{max_text}
use Rattle.cel_text.proofs.Laws.Class.{by-test}
use Rattle.cel_policy.specs.Answers.{policy_answer}
use Rattle.groups.specs.declared.Number.{Number}
use Rattle.groups.specs.declared.Fault.{Fault}
use Rattle.groups.specs.declared.Fault.TheVariants.{Cut, Padded, TooMany}
use Rattle.groups.specs.Groups.{whole, number}
use Rattle.groups.proofs.Laws.{Settled, number_append, Fits, number_fits, fits_as}
use Rattle.recording.specs.declared.Ending.TheVariants.{Complete, BrokenLength, BrokenBody}
use Rattle.recording.specs.declared.reply.Reply.{Reply}
use Rattle.recording.specs.declared.State.{State}
use Rattle.recording.specs.declared.window.Event.{Event}
use Rattle.recording.specs.declared.window.Event.TheVariants.{Body, Skipping, Skipped, Wanting, Last}
use Rattle.recording.specs.Replay.{body_then, record_then, records, line, last_line, reply_to, too_long, refusals, lines_of}
use Rattle.recording.specs.Window.{unless, length_event, skip_event, event, says, takes, becomes, goes, owed_past, owed, owed_as}
use Rattle.recording.proofs.Laws.Records.{records-next, records-number}

-- a body of more than 8,192 bytes is answered with 2, whatever its bytes are
pub reply-long : (t : Text) → max_text < length t → reply_to t ≡ too_long
unfolding reply_to policy_answer
reply-long t h = rw (lt-ltb max_text (length t) h)

-- ---- nothing is lost

abbrev at : (count refused skip : ℕ) → State
at i r k = record { count = i; refused = r; skip = k }

-- the event e of the bytes w is right, whatever bytes y come after them
abbrev Right : State → (w y : Text) → Event → Type 0
Right s w y e = owed s (w ++ y) ≡ says s w e ++ owed_as (goes e) (becomes s w e) (drop (takes e) w ++ y)

-- a long record's body, all of it still to be skipped
past-long : (i r n : ℕ) (z : Text) (t : Bool) → ltb (length z) n ≡ t → max_text < n → lines_of i r (body_then records n z t) ≡ owed_past i r n z t
past-long i r n z true e h = refl
past-long i r n z false e h =
    let l : length (take n z) ≡ n = length-take-le n z (ltb-false (length z) n e) in
    let a : reply_to (take n z) ≡ too_long = reply-long (take n z) (rw l h) in
    ap (λ (b : Reply). line i b ++ lines_of (suc i) (refusals r b) (records (drop n z))) a

-- between two records
module _ (i r : ℕ) (w y : Text) where
  whole-record :
      (n size : ℕ) → number w ≡ whole n size
      → lines_of i r (records (w ++ y)) ≡ lines_of i r (body_then records n (drop size w ++ y) (ltb (length (drop size w ++ y)) n))
  whole-record n size e =
      let f = fits_as w (whole n size) e in
      let a : number (w ++ y) ≡ whole n size = number_append w y (rw e tt) ∙ e in
      let p : 1 ≤ length (w ++ y) = simp length-append (omega (arith, f.0, f.1)) in
      let d : drop size (w ++ y) ≡ drop size w ++ y = drop-append-le size w y f.1 in
      ap (lines_of i r) (records-number (w ++ y) (whole n size) a p) ∙ ap (λ (z : Text). lines_of i r (body_then records n z (ltb (length z) n))) d

  long-right : (n size : ℕ) → number w ≡ whole n size → max_text < n → Right (at i r 0) w y (Skipping size n)
  long-right n size e h =
      whole-record n size e ∙ rw (ne_eqb n 0 (λ q. omega arith)) (past-long i r n (drop size w ++ y) (ltb (length (drop size w ++ y)) n) refl h)

  short-right : (n size : ℕ) → number w ≡ whole n size → length w < size + n → y ≡ [] → Right (at i r 0) w y (Last BrokenBody)
  short-right n size e h z =
      let f = fits_as w (whole n size) e in
      let l : length (drop size w ++ y) < n = rw (z, append-nil) (simp length-drop (omega (arith, f.1))) in
      whole-record n size e ∙ rw (lt-ltb (length (drop size w ++ y)) n l, append-nil)

  body-right : (n size : ℕ) → number w ≡ whole n size → size + n ≤ length w → Right (at i r 0) w y (Body size (size + n))
  body-right n size e h =
      let k : n ≤ length (drop size w) = simp length-drop (omega arith) in
      let l : n ≤ length (drop size w ++ y) = simp (length-append, length-drop) (omega arith) in
      let t : take n (drop size w ++ y) ≡ take n (drop size w) = take-append-le n (drop size w) y k in
      let d : drop n (drop size w ++ y) ≡ drop (size + n) w ++ y = drop-append-le n (drop size w) y k ∙ rw drop-drop in
      let m : size + n - size ≡ n = omega arith in
      whole-record n size e ∙ rw (le-ltb (length (drop size w ++ y)) n l, t, d, m)

  fault-right :
      (q : Result Number Fault) → number w ≡ q → Settled q → 1 ≤ length w → lines_of i r (record_then records (w ++ y) q) ≡ last_line i r BrokenLength
      → Right (at i r 0) w y (Last BrokenLength)
  fault-right q e h p g =
      let a : number (w ++ y) ≡ q = number_append w y (rw e h) ∙ e in
      ap (lines_of i r) (records-number (w ++ y) q a (simp length-append (omega arith))) ∙ g ∙ sym (append-nil (last_line i r BrokenLength))

  cut_right : number w ≡ Err Cut → 1 ≤ length w → y ≡ [] → Right (at i r 0) w y (Last BrokenLength)
  cut_right e p z = rw (z, append-nil, append-nil) (ap (lines_of i r) (records-number w (Err Cut) e p))

over-right : (i r : ℕ) (w y : Text) → length w ≡ 0 → y ≡ [] → Right (at i r 0) w y (Last Complete)
over-right i r [] y e z = rw (z, append-nil) (ap (lines_of i r) (records-next []))
over-right i r (b ∷ w) y e z = absurd (omega arith)

-- the event that a length gives
module _ (i r : ℕ) (w y : Text) (ended : Bool) (no_more : ended ≡ true → y ≡ []) where
  abbrev R : Event → Type 0
  R = Right (at i r 0) w y

  number-right : (q : Result Number Fault) → number w ≡ q → R (length_event (length w) ended q)
  number-right (Ok q) e =
      let n : ℕ = q.value in
      let size : ℕ = q.size in
      by-test R (ltb max_text n) (Skipping size n) (cond (ltb (length w) (size + n)) (unless ended (Last BrokenBody)) (Body size (size + n)))
      (λ t. long-right i r w y n size e (ltb-true max_text n t))
      (λ t. by-test R (ltb (length w) (size + n)) (unless ended (Last BrokenBody)) (Body size (size + n))
      (λ u. by-test R ended (Last BrokenBody) Wanting (λ v. short-right i r w y n size e (ltb-true (length w) (size + n) u) (no_more v)) (λ v. refl))
      (λ u. body-right i r w y n size e (ltb-false (length w) (size + n) u)))
  number-right (Err Cut) e =
      by-test R ended (cond (eqb (length w) 0) (Last Complete) (Last BrokenLength)) Wanting
      (λ v. by-test R (eqb (length w) 0) (Last Complete) (Last BrokenLength)
      (λ u. over-right i r w y (eqb-true (length w) 0 u) (no_more v))
      (λ u. cut_right i r w y e (omega (arith, eqb-false (length w) 0 u)) (no_more v)))
      (λ v. refl)
  number-right (Err Padded) e = fault-right i r w y (Err Padded) e tt (fits_as w _ e) refl
  number-right (Err TooMany) e = fault-right i r w y (Err TooMany) e tt (fits_as w _ e) refl

-- inside a record that is skipped
module _ (i r k : ℕ) (w y : Text) (some : k ≡ 0 → ⊥) where
  owed-past : (x : Text) → owed (at i r k) x ≡ owed_past i r k x (ltb (length x) k)
  owed-past x = rw (ne_eqb k 0 some)

  skip-short : length w < k → y ≡ [] → Right (at i r k) w y (Last BrokenBody)
  skip-short l z = rw (z, append-nil, append-nil) (owed-past w ∙ rw (lt-ltb (length w) k l))

  skip-over : k ≤ length w → Right (at i r k) w y (Skipped k)
  skip-over l = owed-past (w ++ y) ∙ rw (le-ltb (length (w ++ y)) k (simp length-append (omega arith)), drop-append-le k w y l)

  -- the same bytes are still short, and the same rest is left
  past-held : length w < k → (t : Bool) → owed_past i r k (w ++ y) t ≡ owed_past i r (k - length w) (drop (length w) w ++ y) t
  past-held l true = refl
  past-held l false =
      let q : k ≡ length w + (k - length w) = omega arith in
      let e : drop k (w ++ y) ≡ drop (k - length w) y = ap (λ (j : ℕ). drop j (w ++ y)) q ∙ drop-append-add w y (k - length w) in
      rw (e, drop-length)

  skip-held : length w < k → Right (at i r k) w y (Skipping (length w) (k - length w))
  skip-held l =
      let z : k - length w ≡ 0 → ⊥ = λ q. omega arith in
      let t : ltb (length (w ++ y)) k ≡ ltb (length (drop (length w) w ++ y)) (k - length w) =
      cases (ltb (length (w ++ y)) k)
      (λ e. e
      ∙ sym (lt-ltb (length (drop (length w) w ++ y)) (k - length w) (rw drop-length (omega (arith, length-append w y, ltb-true (length (w ++ y)) k e)))))
      (λ e. e
      ∙ sym (le-ltb (length (drop (length w) w ++ y)) (k - length w) (rw drop-length (omega (arith, length-append w y, ltb-false (length (w ++ y)) k e))))) in
      owed-past (w ++ y) ∙ past-held l (ltb (length (w ++ y)) k) ∙ rw (t, ne_eqb (k - length w) 0 z)

  skip-right : (ended : Bool) → (ended ≡ true → y ≡ []) → Right (at i r k) w y (skip_event k (length w) ended)
  skip-right ended no_more =
      by-test (Right (at i r k) w y) (ltb (length w) k)
      (cond ended (Last BrokenBody) (cond (eqb (length w) 0) Wanting (Skipping (length w) (k - length w)))) (Skipped k)
      (λ t. by-test (Right (at i r k) w y) ended (Last BrokenBody) (cond (eqb (length w) 0) Wanting (Skipping (length w) (k - length w)))
      (λ u. skip-short (ltb-true (length w) k t) (no_more u))
      (λ u. by-test (Right (at i r k) w y) (eqb (length w) 0) Wanting (Skipping (length w) (k - length w))
      (λ v. refl)
      (λ v. skip-held (ltb-true (length w) k t))))
      (λ t. skip-over (ltb-false (length w) k t))

-- for all bytes to come; where there are none to come, the event may use that
pub event-right : (s : State) (w y : Text) (ended : Bool) → (ended ≡ true → y ≡ []) → Right s w y (event s.skip w ended)
unfolding event
event-right s w y ended no_more =
    by-test (Right s w y) (eqb s.skip 0) (length_event (length w) ended (number w)) (skip_event s.skip (length w) ended)
    (λ t. zero_right s.skip (eqb-true s.skip 0 t))
    (λ t. skip-right s.count s.refused s.skip w y (eqb-false s.skip 0 t) ended no_more)
  where
    zero_right : (k : ℕ) → k ≡ 0 → Right (at s.count s.refused k) w y (length_event (length w) ended (number w))
    zero_right k e = rw e (number-right s.count s.refused w y ended no_more (number w) refl)

-- ---- each event takes bytes, ends the run or wants more

-- the most bytes that want more: two groups and a body of 8,192 bytes, one byte of which is missing, and a byte
abbrev pub most_held : ℕ
most_held = 8194

-- where the parts of an event lie, and how few bytes want more
abbrev pub Moves : (held : ℕ) → (ended : Bool) → Event → Type 0
Moves held ended (Body from to) = (from ≤ to) × (1 ≤ to) × (to ≤ held)
Moves held ended (Skipping to left) = (1 ≤ to) × (to ≤ held)
Moves held ended (Skipped to) = (1 ≤ to) × (to ≤ held)
Moves held ended Wanting = (ended ≡ false) × (held ≤ most_held)
Moves held ended (Last e) = Unit

module _ (w : Text) (ended : Bool) where
  abbrev M : Event → Type 0
  M = Moves (length w) ended

  length-moves : (q : Result Number Fault) → Fits 2 (length w) q → M (length_event (length w) ended q)
  length-moves (Ok q) f =
      let n : ℕ = q.value in
      let size : ℕ = q.size in
      by-test M (ltb max_text n) (Skipping size n) (cond (ltb (length w) (size + n)) (unless ended (Last BrokenBody)) (Body size (size + n)))
      (λ t. (f.0, f.1))
      (λ t. by-test M (ltb (length w) (size + n)) (unless ended (Last BrokenBody)) (Body size (size + n))
      (λ u. by-test M ended (Last BrokenBody) Wanting
      (λ v. tt)
      (λ v. (v, omega (arith, f.2, ltb-false max_text n t, ltb-true (length w) (size + n) u))))
      (λ u. (omega arith, omega (arith, f.0), ltb-false (length w) (size + n) u)))
  length-moves (Err Cut) f =
      by-test M ended (cond (eqb (length w) 0) (Last Complete) (Last BrokenLength)) Wanting
      (λ v. by-test M (eqb (length w) 0) (Last Complete) (Last BrokenLength) (λ u. tt) (λ u. tt))
      (λ v. (v, omega arith))
  length-moves (Err Padded) f = tt
  length-moves (Err TooMany) f = tt

  skip-moves : (k : ℕ) → (k ≡ 0 → ⊥) → M (skip_event k (length w) ended)
  skip-moves k some =
      by-test M (ltb (length w) k) (cond ended (Last BrokenBody) (cond (eqb (length w) 0) Wanting (Skipping (length w) (k - length w)))) (Skipped k)
      (λ t. by-test M ended (Last BrokenBody) (cond (eqb (length w) 0) Wanting (Skipping (length w) (k - length w)))
      (λ u. tt)
      (λ u. by-test M (eqb (length w) 0) Wanting (Skipping (length w) (k - length w))
      (λ v. (u, omega (arith, eqb-true (length w) 0 v)))
      (λ v. (omega (arith, eqb-false (length w) 0 v), omega arith))))
      (λ t. (omega arith, ltb-false (length w) k t))

  pub event-moves : (k : ℕ) → M (event k w ended)
  unfolding event
  event-moves k =
      by-test M (eqb k 0) (length_event (length w) ended (number w)) (skip_event k (length w) ended)
      (λ t. length-moves (number w) (number_fits w))
      (λ t. skip-moves k (eqb-false k 0 t))
