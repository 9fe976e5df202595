-- What reading a tree finds: the first of five things that holds, in the order of SPEC.md. Whoever takes `find_tree` apart does it by `finds`. Assumes nothing.
use Rattle.std.specs.Prelude.{◌≡◌, refl, ℕ, ◌≤◌, ◌<◌, Bool, length, ltb}
use Rattle.std.proofs.Common.{arith, ltb-true, ltb-false, le-ltb}
use Rattle.cel_text.specs.Byte.{Text, ascii, lead, string_byte}
use Rattle.cel_text.specs.Tree.{Tree}
use Rattle.cel_text.specs.Table.{node_words}
use Rattle.cel_text.specs.Reading.{Fault, syntax, too_deep, too_many, Outcome, accepted, refused, read, limits, max_depth, max_nodes}
use Rattle.cel_text.specs.Answer.{max_text, fault_number, Found, tree, fault, found, find_tree, answered, tree_answer}
use Rattle.cel_text.proofs.Laws.Class.{by-test}
use Rattle.cel_text.proofs.Laws.Sound.{within}
use Rattle.cel_text.proofs.Laws.Limit.{clash}

-- a table of w words is long enough, the text is short enough, and each of its bytes is below 128: 1, 2 and 3 do not refuse
pub record Passes (w : ℕ) (x : Text) : Type 0 where
  pub enough : node_words ≤ w
  pub short : length x ≤ max_text
  pub low : length x ≤ lead ascii x

module _ (S : ℕ → Bool) (w : ℕ) (x : Text) where
  -- what is found, and why
  pub data FindsTree : Found → Type 0 where
    too_short : w < node_words → FindsTree (fault 1 0)
    too_long : node_words ≤ w → max_text < length x → FindsTree (fault 2 max_text)
    not_ascii : node_words ≤ w → length x ≤ max_text → lead ascii x < length x → FindsTree (fault 3 (lead ascii x))
    broken : {f : Fault} {p : ℕ} → Passes w x → read S limits x ≡ refused f p → FindsTree (fault (fault_number f) p)
    whole : {t : Tree} {q : ℕ} → Passes w x → read S limits x ≡ accepted t q → FindsTree (tree t q)

  pub finds : FindsTree (find_tree S w x)
  finds =
      by-test FindsTree (ltb w node_words) _ _ (λ a. too_short (ltb-true w node_words a)) (λ a.
      by-test FindsTree (ltb max_text (length x)) _ _ (λ b. too_long (ltb-false w node_words a) (ltb-true max_text (length x) b)) (λ b.
      by-test FindsTree (ltb (lead ascii x) (length x)) _ _
      (λ c. not_ascii (ltb-false w node_words a) (ltb-false max_text (length x) b) (ltb-true (lead ascii x) (length x) c))
      (λ c. reading (record { enough = ltb-false w node_words a; short = ltb-false max_text (length x) b; low = ltb-false (lead ascii x) (length x) c }) (read S limits x) refl)))
    where
      reading : Passes w x → (o : Outcome) → read S limits x ≡ o → FindsTree (found o)
      reading p (accepted t q) e = whole p e
      reading p (refused f q) e = broken p e

  -- where 1, 2 and 3 do not refuse, reading says what is found
  pub find-passes : Passes w x → find_tree S w x ≡ found (read S limits x)
  find-passes p = rw (le-ltb w node_words p.enough, le-ltb max_text (length x) p.short, le-ltb (lead ascii x) (length x) p.low)

  -- a tree that is found was read
  pub found-tree : {t : Tree} {q : ℕ} → find_tree S w x ≡ tree t q → Passes w x × (read S limits x ≡ accepted t q)
  found-tree {t} {q} = by finds
    where
      by : {f : Found} → FindsTree f → f ≡ tree t q → Passes w x × (read S limits x ≡ accepted t q)
      by (too_short a) e = clash cc
      by (too_long a b) e = clash cc
      by (not_ascii a b c) e = clash cc
      by (broken p r) e = clash cc
      by (whole p r) e = (p, cc)

-- the numbers of a fault
pub fault_number-range : (f : Fault) → (4 ≤ fault_number f) × (fault_number f ≤ 6)
fault_number-range syntax = omega arith
fault_number-range too_deep = omega arith
fault_number-range too_many = omega arith

pub found-fault : (S : ℕ → Bool) (w : ℕ) (x : Text) {r p : ℕ} → find_tree S w x ≡ fault r p → (1 ≤ r) × (r ≤ 6)
found-fault S w x {r} {p} = by (finds S w x)
  where
    at : (n m : ℕ) → (1 ≤ n) × (n ≤ 6) → fault n m ≡ fault r p → (1 ≤ r) × (r ≤ 6)
    at n m h e = let same : n ≡ r = cc in omega arith

    by : {f : Found} → FindsTree S w x f → f ≡ fault r p → (1 ≤ r) × (r ≤ 6)
    by (too_short a) e = at 1 0 (omega arith) e
    by (too_long a b) e = at 2 max_text (omega arith) e
    by (not_ascii a b c) e = at 3 (lead ascii x) (omega arith) e
    by (broken {f = f} {p = q} a h) e = at (fault_number f) q (omega (arith, fault_number-range f)) e
    by (whole a h) e = clash cc

-- every answer is within the limits
pub answer-within : (w : ℕ) (x : Text) → ((tree_answer w x).nodes ≤ max_nodes) × ((tree_answer w x).depth ≤ max_depth)
unfolding tree_answer
answer-within w x = by (finds string_byte w x)
  where
    by : {f : Found} → FindsTree string_byte w x f → ((answered f).nodes ≤ max_nodes) × ((answered f).depth ≤ max_depth)
    by (too_short h) = omega arith
    by (too_long h l) = omega arith
    by (not_ascii h l a) = omega arith
    by (broken h e) = omega arith
    by (whole {t = t} {q = q} h e) = let l = within string_byte x t q e in (l.1, l.0)
