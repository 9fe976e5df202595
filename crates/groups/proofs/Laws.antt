-- What is true of numbers in groups: reading undoes writing, writing undoes reading, and each number has one shortest form. Assumes nothing.
use Rattle.std.specs.Prelude.{◌≡◌, refl, ℕ, zero, suc, ◌+◌, ◌-◌, ◌*◌, ◌/◌, ◌%◌, ◌^◌, ◌≤◌, ◌<◌, List, [], ◌∷◌, ◌++◌, length, drop, ltb, eqb, Result, Ok, Err}
use Rattle.std.specs.List.{AllByRecursion}
use Rattle.std.proofs.Common.{sym, ap, subst, ◌∙◌, pow-suc, div-lt_iff_lt-mul, arith, lt-ltb, le-ltb, ltb-true, ltb-false, ne_eqb}
use Rattle.std.proofs.Math.Seq.{drop-append_seam}
use Rattle.std.proofs.lemmas.Bool.{eqb-false}
use borrow.Table.Steps.{cases}
use Rattle.groups.specs.declared.Number.{Number}
use Rattle.groups.specs.declared.Fault.{Fault}
use Rattle.groups.specs.declared.Fault.TheVariants.{Cut, Padded, TooMany}
use Rattle.groups.specs.Groups.{Grouped, last, more, Shortest, groups_in, groups, max_number, whole, before, number_in, number}

-- a number below 128 is its own form; a greater one begins with a group of its low bits
small-form : (left n : ℕ) → n < 128 → groups_in left n ≡ n ∷ []
small-form zero n h = refl
small-form (suc left) n h = rw (lt-ltb n 128 h)

great-form : (left n : ℕ) → 128 ≤ n → groups_in (suc left) n ≡ (128 + n % 128) ∷ groups_in left (n / 128)
great-form left n h = rw (le-ltb n 128 h)

-- the rest of a number of more than one group
rest-small : (left n : ℕ) → n < 128 ^ suc (suc left) → n / 128 < 128 ^ suc left
rest-small left n h = (div-lt_iff_lt-mul {k = 128} (omega arith)).1 (rw (pow-suc 128 (suc left)) at h)

-- two that are read the same are the same number of as many groups
whole-same : {m n k size : ℕ} → whole m k ≡ whole n size → (m ≡ n) × (k ≡ size)
whole-same {m = m} {n = n} {k = k} {size = size} e =
    let a : Number = record { value = m; size = k } in
    let b : Number = record { value = n; size = size } in
    let same : a ≡ b = cc in (ap (λ (x : Number). x.value) same, ap (λ (x : Number). x.size) same)

-- ---- reading undoes writing

read_small : (left b : ℕ) (x : List ℕ) → b < 128 → number_in left (b ∷ x) ≡ whole b 1
read_small zero b x h = rw (lt-ltb b 128 h)
read_small (suc left) b x h = rw (lt-ltb b 128 h)

-- a group before a number that is not 0
before-some : (b m size : ℕ) → (m ≡ 0 → ⊥) → before b (whole m size) ≡ whole (b - 128 + 128 * m) (suc size)
before-some b m size h = rw (ne_eqb m 0 h)

number-groups_in : (left n : ℕ) (x : List ℕ) → n < 128 ^ suc left → number_in left (groups_in left n ++ x) ≡ whole n (length (groups_in left n))
number-groups_in zero n x h = read_small zero n x (omega arith)
number-groups_in (suc left) n x h =
    cases (ltb n 128)
    (λ e. let s : n < 128 = ltb-true n 128 e in rw (small-form (suc left) n s) (read_small (suc left) n x s))
    (λ e. let o : 128 ≤ n = ltb-false n 128 e in
    let i : number_in left (groups_in left (n / 128) ++ x) ≡ whole (n / 128) (length (groups_in left (n / 128))) = number-groups_in left (n / 128) x (rest-small left n h) in
    let v : 128 + n % 128 - 128 + 128 * (n / 128) ≡ n = omega arith in
    rw (great-form left n o, le-ltb (128 + n % 128) 128 (omega arith), i)
    (before-some (128 + n % 128) (n / 128) (length (groups_in left (n / 128))) (λ z. omega (arith, z))
    ∙ ap (λ (k : ℕ). whole k (suc (length (groups_in left (n / 128))))) v))

pub number-groups : (n : ℕ) (x : List ℕ) → n ≤ max_number → number (groups n ++ x) ≡ whole n (length (groups n))
unfolding groups number
number-groups n x h = number-groups_in 2 n x (omega arith)

-- no form is a beginning of another
pub groups-apart : (m n : ℕ) (x y : List ℕ) → m ≤ max_number → n ≤ max_number → groups m ++ x ≡ groups n ++ y → (m ≡ n) × (x ≡ y)
groups-apart m n x y h l e =
    let a : number (groups m ++ x) ≡ whole m (length (groups m)) = number-groups m x h in
    let b : number (groups n ++ y) ≡ whole n (length (groups n)) = number-groups n y l in
    let f : whole m (length (groups m)) ≡ whole n (length (groups n)) = sym a ∙ ap number e ∙ b in
    let same = whole-same f in
    (same.0, sym (drop-append_seam (groups m) x) ∙ rw (same.1, e) (drop-append_seam (groups n) y))

-- ---- writing undoes reading

-- what is read of at most left + 1 groups is the form of that number, and then the rest
pub record Front (left : ℕ) (x : List ℕ) (n size : ℕ) : Type 0 where
  pub bound : n < 128 ^ suc left
  pub long : size ≡ length (groups_in left n)
  pub front : x ≡ groups_in left n ++ drop size x

-- a fault is no number
not-fault : {P : Type 0} {fault : Fault} {n size : ℕ} → Err fault ≡ whole n size → P
not-fault e = absurd (cc)

below : (left b : ℕ) → b < 128 → b < 128 ^ suc left
below zero b h = omega arith
below (suc left) b h = rw (pow-suc 128 (suc left)) (omega (arith, below left b h))

one-front : (left b : ℕ) (x : List ℕ) (n size : ℕ) → b < 128 → whole b 1 ≡ whole n size → Front left (b ∷ x) n size
one-front left b x n size s e =
    let same = whole-same e in
    rw (sym same.0, sym same.1) (record { bound = below left b s; long = rw (small-form left b s); front = rw (small-form left b s) })

-- a group b before the form of m
more-front : (left b : ℕ) (x : List ℕ) (m k n size : ℕ) → 128 ≤ b → b < 256 → (m ≡ 0 → ⊥) → Front left x m k
    → whole (b - 128 + 128 * m) (suc k) ≡ whole n size → Front (suc left) (b ∷ x) n size
more-front left b x m k n size o s some f e =
    let same = whole-same e in
    let v : b - 128 + 128 * m ≡ n = same.0 in
    let great : 128 ≤ n = omega arith in
    let high : n / 128 ≡ m = omega arith in
    let low : 128 + n % 128 ≡ b = omega arith in
    let form : groups_in (suc left) n ≡ b ∷ groups_in left m = great-form left n great ∙ rw (high, low) in
    rw (sym same.1)
    (record {
      bound = let l : m < 128 ^ suc left = f.bound in rw (pow-suc 128 (suc left)) (omega arith);
      long = rw form (ap suc f.long);
      front = rw form (ap (λ (y : List ℕ). b ∷ y) f.front);
    })

module _ (left b : ℕ) (x : List ℕ) (n size : ℕ) (o : 128 ≤ b) (s : b < 256) where
  before-front : (q : Result Number Fault) → ((m k : ℕ) → q ≡ whole m k → Front left x m k) → before b q ≡ whole n size → Front (suc left) (b ∷ x) n size
  before-front (Ok m) f e =
      cases (eqb m.value 0)
      (λ t. not-fault (rw t at e))
      (λ t. more-front left b x m.value m.size n size o s (eqb-false m.value 0 t) (f m.value m.size refl) (rw t at e))
  before-front (Err fault) f e = not-fault e

front-number : (left : ℕ) (x : List ℕ) (n size : ℕ) → AllByRecursion (λ (b : ℕ). b < 256) x → number_in left x ≡ whole n size → Front left x n size
front-number left [] n size bs e = not-fault e
front-number zero (b ∷ x) n size bs e =
    cases (ltb b 128) (λ t. one-front zero b x n size (ltb-true b 128 t) (rw t at e)) (λ t. not-fault (rw t at e))
front-number (suc left) (b ∷ x) n size bs e =
    cases (ltb b 128)
    (λ t. one-front (suc left) b x n size (ltb-true b 128 t) (rw t at e))
    (λ t. before-front left b x n size (ltb-false b 128 t) bs.0 (number_in left x) (λ m k q. front-number left x m k bs.1 q) (rw t at e))

-- a number that is read is at most 2,097,151, and its bytes are its form
pub groups-number :
    (x : List ℕ) (n size : ℕ) → AllByRecursion (λ (b : ℕ). b < 256) x → number x ≡ whole n size
    → (n ≤ max_number) × (size ≡ length (groups n)) × (x ≡ groups n ++ drop size x)
unfolding groups number
groups-number x n size bs e =
    let f : Front 2 x n size = front-number 2 x n size bs e in
    (let l : n < 128 ^ 3 = f.bound in omega arith, f.long, f.front)

-- ---- more bytes

-- an outcome that more bytes cannot change
abbrev pub Settled : Result Number Fault → Type 0
Settled (Ok n) = Unit
Settled (Err Cut) = ⊥
Settled (Err Padded) = Unit
Settled (Err TooMany) = Unit

before-settled : (b : ℕ) (q r : Result Number Fault) → (Settled q → r ≡ q) → Settled (before b q) → before b r ≡ before b q
before-settled b (Ok n) r f h = ap (before b) (f tt)
before-settled b (Err Cut) r f h = absurd h
before-settled b (Err Padded) r f h = ap (before b) (f tt)
before-settled b (Err TooMany) r f h = ap (before b) (f tt)

number_in-append : (left : ℕ) (x y : List ℕ) → Settled (number_in left x) → number_in left (x ++ y) ≡ number_in left x
number_in-append left [] y h = absurd h
number_in-append zero (b ∷ x) y h = refl
number_in-append (suc left) (b ∷ x) y h =
    cases (ltb b 128)
    (λ t. rw t)
    (λ t. rw t (before-settled b (number_in left x) (number_in left (x ++ y)) (number_in-append left x y) (rw t at h)))

pub number_append : (x y : List ℕ) → Settled (number x) → number (x ++ y) ≡ number x
unfolding number
number_append x y h = number_in-append 2 x y h

-- a number lies in the bytes; one that is cut short has fewer groups than it may have
abbrev pub Fits : (left held : ℕ) → Result Number Fault → Type 0
Fits left held (Ok n) = (1 ≤ n.size) × (n.size ≤ held) × (n.size ≤ suc left)
Fits left held (Err Cut) = held ≤ left
Fits left held (Err Padded) = 1 ≤ held
Fits left held (Err TooMany) = 1 ≤ held

before-fits : (left held b : ℕ) (q : Result Number Fault) → Fits left held q → Fits (suc left) (suc held) (before b q)
before-fits left held b (Ok n) f =
    cases (eqb n.value 0) (λ t. rw t (omega arith)) (λ t. rw t (omega arith, omega (arith, f.1), omega (arith, f.2)))
before-fits left held b (Err Cut) f = omega arith
before-fits left held b (Err Padded) f = omega arith
before-fits left held b (Err TooMany) f = omega arith

number_in-fits : (left : ℕ) (x : List ℕ) → Fits left (length x) (number_in left x)
number_in-fits left [] = omega arith
number_in-fits zero (b ∷ x) = cases (ltb b 128) (λ t. rw t (omega arith, omega arith, omega arith)) (λ t. rw t (omega arith))
number_in-fits (suc left) (b ∷ x) =
    cases (ltb b 128) (λ t. rw t (omega arith, omega arith, omega arith)) (λ t. rw t (before-fits left (length x) b (number_in left x) (number_in-fits left x)))

pub number_fits : (x : List ℕ) → Fits 2 (length x) (number x)
unfolding number
number_fits x = number_in-fits 2 x

pub fits_as : (x : List ℕ) (q : Result Number Fault) → number x ≡ q → Fits 2 (length x) q
fits_as x q e = subst (Fits 2 (length x)) e (number_fits x)

-- ---- the form is the shortest, and the only one so short

-- at most three groups
length-groups_in : (left n : ℕ) → length (groups_in left n) ≤ suc left
length-groups_in zero n = omega arith
length-groups_in (suc left) n = cases (ltb n 128) (λ e. rw e (omega arith)) (λ e. rw e (omega (arith, length-groups_in left (n / 128))))

pub length-groups : (n : ℕ) → length (groups n) ≤ 3
unfolding groups
length-groups n = length-groups_in 2 n

grouped-some : {x : List ℕ} {n : ℕ} → Grouped x n → 1 ≤ length x
grouped-some (last h) = omega arith
grouped-some (more s o g e) = omega arith

groups_in-grouped : (left n : ℕ) → n < 128 ^ suc left → Grouped (groups_in left n) n
groups_in-grouped zero n h = last h
groups_in-grouped (suc left) n h =
    cases (ltb n 128)
    (λ e. rw e (last (ltb-true n 128 e)))
    (λ e. rw e (more {b = 128 + n % 128} {n = n} (omega arith) (omega arith) (groups_in-grouped left (n / 128) (rest-small left n h)) (omega arith)))

module _ (b m n : ℕ) (s : 128 ≤ b) (o : b < 256) (e : n ≡ b - 128 + 128 * m) where
  front-high : n / 128 ≡ m
  front-high = omega arith

  front_low : 128 + n % 128 ≡ b
  front_low = omega arith

groups_in-least : (left : ℕ) {y : List ℕ} {n : ℕ} → Grouped y n → length (groups_in left n) ≤ length y
groups_in-least left (last {b = b} h) = rw (small-form left b h) (omega arith)
groups_in-least zero (more s o g e) = omega arith
groups_in-least (suc left) {n = n} (more {b = b} {m = m} s o g e) =
    cases (ltb n 128) (λ t. rw t (omega arith)) (λ t. rw (t, front-high b m n s o e) (omega (arith, groups_in-least left g)))

groups_in-only : (left : ℕ) {y : List ℕ} {n : ℕ} → Grouped y n → length y ≤ length (groups_in left n) → y ≡ groups_in left n
groups_in-only left (last {b = b} h) l = rw (small-form left b h)
groups_in-only zero (more s o g e) l = absurd (omega (arith, grouped-some g))
groups_in-only (suc left) {n = n} (more {b = b} {m = m} s o g e) l =
    cases (ltb n 128)
    (λ t. absurd (omega (arith, grouped-some g, rw t at l)))
    (λ t. rw (t, front-high b m n s o e, front_low b m n s o e)
    (ap (λ (z : List ℕ). b ∷ z) (groups_in-only left g (omega (arith, rw (t, front-high b m n s o e) at l)))))

-- each number up to 2,097,151 has one shortest form
pub groups-shortest : (n : ℕ) → n ≤ max_number → Shortest (groups n) n
unfolding groups
groups-shortest n h = record { grouped = groups_in-grouped 2 n (omega arith); least = λ y g. groups_in-least 2 g }

pub shortest-groups : (x : List ℕ) (n : ℕ) → n ≤ max_number → Shortest x n → x ≡ groups n
unfolding groups
shortest-groups x n h s = groups_in-only 2 s.grouped (s.least (groups_in 2 n) (groups_in-grouped 2 n (omega arith)))
