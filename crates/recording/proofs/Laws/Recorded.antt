-- What was recorded is what is replayed: bodies that are written out, one record after the other, are read as those bodies. And every recording is bodies so
-- written out, and then nothing or a fault. Assumes nothing.
use Rattle.std.specs.Prelude.{◌≡◌, refl, ℕ, zero, suc, ◌≤◌, ◌<◌, Bool, true, false, List, [], ◌∷◌, ◌++◌, length, take, drop, ltb, Result, Ok, Err}
use Rattle.std.specs.List.{AllByRecursion, flat_map}
use Rattle.std.proofs.Common.{sym, ap, ◌∙◌, arith, append_assoc, append-nil, length-append, take-append-drop, length-take-le, take_at, drop_at, lt-ltb, le-ltb, ltb-true, ltb-false}
use Rattle.cel_text.specs.Byte.{Text}
use Rattle.groups.specs.declared.Number.{Number}
use Rattle.groups.specs.declared.Fault.{Fault}
use Rattle.groups.specs.Groups.{groups, max_number, number, whole}
use Rattle.groups.proofs.Laws.{fits_as, number-groups, groups-number}
use Rattle.recording.specs.declared.Ending.{Ending}
use Rattle.recording.specs.declared.Ending.TheVariants.{Complete, BrokenLength, BrokenBody}
use Rattle.recording.specs.Replay.{Recording, ends, first, body_then, record_then, records, heading, lines_from, replayed}
use Rattle.recording.proofs.Laws.Records.{shorter-rest, records-next, records-number}

-- ---- bodies written out are read

abbrev pub recorded : List Text → Text
recorded ts = flat_map (λ (t : Text). groups (length t) ++ t) ts

-- bodies whose lengths can be told
abbrev pub Recordable : List Text → Type 0
Recordable ts = AllByRecursion (λ (t : Text). length t ≤ max_number) ts

abbrev pub Bytes : Text → Type 0
Bytes x = AllByRecursion (λ (b : ℕ). b < 256) x

-- bodies before a recording
abbrev pub after-bodies : List Text → Recording → Recording
after-bodies ts r = record { bodies = ts ++ r.bodies; ending = r.ending }

record-read : (t x : Text) → length t ≤ max_number → records (groups (length t) ++ (t ++ x)) ≡ first t (records x)
record-read t x h =
    let g : Text = groups (length t) in
    let q : number (groups (length t) ++ (t ++ x)) ≡ whole (length t) (length (groups (length t))) = number-groups (length t) (t ++ x) h in
    let f = fits_as (g ++ (t ++ x)) (whole (length t) (length g)) q in
    let l : length t ≤ length (t ++ x) = omega (arith, length-append t x) in
    records-number (g ++ (t ++ x)) (whole (length t) (length g)) q (omega (arith, f.0, f.1))
    ∙ rw (drop_at g (t ++ x) (length g) refl, le-ltb (length (t ++ x)) (length t) l, take_at t x (length t) refl, drop_at t x (length t) refl) refl

pub records-recorded : (ts : List Text) (x : Text) → Recordable ts → records (recorded ts ++ x) ≡ after-bodies ts (records x)
records-recorded [] x h = refl
records-recorded (t ∷ ts) x h =
    ap records (append_assoc (groups (length t) ++ t) (recorded ts) x ∙ append_assoc (groups (length t)) t (recorded ts ++ x))
    ∙ record-read t (recorded ts ++ x) h.0 ∙ ap (first t) (records-recorded ts x h.1)

records-none : records [] ≡ record { bodies = []; ending = Complete }
unfolding records
records-none = refl

-- a line for each body, and the counts
pub replayed-recorded : (ts : List Text) → Recordable ts → replayed (recorded ts) ≡ heading ++ lines_from 0 0 ts Complete
unfolding replayed
replayed-recorded ts h =
    let e : records (recorded ts) ≡ record { bodies = ts; ending = Complete } =
    ap records (sym (append-nil (recorded ts))) ∙ records-recorded ts [] h ∙ ap (after-bodies ts) records-none
    ∙ ap (λ (bs : List Text). record { bodies = bs; ending = Complete }) (append-nil ts) in
    rw e refl

-- ---- every recording is bodies written out, and what is left

-- what is left is no length
pub record NoLength (x : Text) : Type 0 where
  pub some : 1 ≤ length x
  pub fault : Fault
  pub broken : number x ≡ Err fault

-- or a length, and then fewer bytes than it says
pub record NoBody (x : Text) : Type 0 where
  pub value : ℕ
  pub size : ℕ
  pub told : number x ≡ whole value size
  pub short : length (drop size x) < value

-- what is left behind the bodies, by the ending
abbrev pub Left : Ending → Text → Type 0
Left Complete x = x ≡ []
Left BrokenLength x = NoLength x
Left BrokenBody x = NoBody x

-- the bodies written out, and then what is left
pub record Told (x : Text) (r : Recording) : Type 0 where
  pub rest : Text
  pub told : x ≡ recorded r.bodies ++ rest
  pub recordable : Recordable r.bodies
  pub left : Left r.ending rest

bytes-drop : (k : ℕ) (x : Text) → Bytes x → Bytes (drop k x)
bytes-drop zero x h = h
bytes-drop (suc k) [] h = tt
bytes-drop (suc k) (b ∷ x) h = bytes-drop k x h.1

-- a record before what is told
told-first : (n : ℕ) (x z : Text) (r : Recording) → n ≤ max_number → n ≤ length z → x ≡ groups n ++ z → Told (drop n z) r → Told x (first (take n z) r)
told-first n x z r h l e d =
    let long : length (take n z) ≡ n = length-take-le n z l in
    record {
      rest = d.rest;
      told =
          e ∙ rw long (ap (λ (y : Text). groups n ++ y) (sym (take-append-drop n z) ∙ ap (λ (y : Text). take n z ++ y) d.told)
          ∙ sym (append_assoc (groups n) (take n z) (recorded r.bodies ++ d.rest))
          ∙ sym (append_assoc (groups n ++ take n z) (recorded r.bodies) d.rest));
      recordable = (rw long h, d.recordable);
      left = d.left;
    }

module _ (x : Text) (bs : Bytes x) (some : 1 ≤ length x) (shorter : (y : Text) → length y < length x → Bytes y → Told y (records y)) where
  told-body : (n size : ℕ) → number x ≡ whole n size → (short : Bool) → ltb (length (drop size x)) n ≡ short → Told x (body_then records n (drop size x) short)
  told-body n size q true e =
      record { rest = x; told = refl; recordable = tt; left = record { value = n; size = size; told = q; short = ltb-true (length (drop size x)) n e } }
  told-body n size q false e =
      let g = groups-number x n size bs q in
      let f = fits_as x (whole n size) q in
      let z : Text = drop size x in
      told-first n x z (records (drop n z)) g.0 (ltb-false (length z) n e) g.2
      (shorter (drop n z) (shorter-rest n size x f.0 f.1) (bytes-drop n z (bytes-drop size x bs)))

  told-record : (q : Result Number Fault) → number x ≡ q → Told x (record_then records x q)
  told-record (Ok n) e = told-body n.value n.size e (ltb (length (drop n.size x)) n.value) refl
  told-record (Err fault) e = record { rest = x; told = refl; recordable = tt; left = record { some = some; fault = fault; broken = e } }

told-most : (most : ℕ) (x : Text) → length x ≤ most → Bytes x → Told x (records x)
told-most most [] h bs = rw records-none (record { rest = []; told = refl; recordable = tt; left = refl })
told-most zero (b ∷ x) h bs = absurd (omega arith)
told-most (suc most) (b ∷ x) h bs =
    rw (records-next (b ∷ x))
    (told-record (b ∷ x) bs (omega arith) (λ y s c. told-most most y (omega (arith, s)) c) (number (b ∷ x)) refl)

pub recorded-records : (x : Text) → Bytes x → Told x (records x)
recorded-records x bs = told-most (length x) x (omega arith) bs

-- and these are its only bodies and its only ending
left-ends : (e : Ending) (x : Text) → Left e x → records x ≡ ends e
left-ends Complete x l = ap records l ∙ records-none
left-ends BrokenLength x l = records-number x (Err l.fault) l.broken l.some
left-ends BrokenBody x l =
    let f = fits_as x (whole l.value l.size) l.told in
    records-number x (whole l.value l.size) l.told (omega (arith, f.0, f.1)) ∙ rw (lt-ltb (length (drop l.size x)) l.value l.short) refl

pub recorded-only : (x : Text) (r : Recording) → Told x r → records x ≡ r
recorded-only x r d =
    ap records d.told ∙ records-recorded r.bodies d.rest d.recordable ∙ ap (after-bodies r.bodies) (left-ends r.ending d.rest d.left)
    ∙ ap (λ (bs : List Text). record { bodies = bs; ending = r.ending }) (append-nil r.bodies)
