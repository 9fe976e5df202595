-- From the answer of reading a tree, and from a tree that was mapped, to the answer and the tables of reading a policy. Assumes nothing.
use mathlib.Core.Path.{◌≡◌, refl, sym, ap, subst, ◌∙◌}
use Prim.Native.Nat.{ℕ, zero, suc, ◌+◌, ◌-◌, ◌*◌, ◌≤◌, ◌<◌}
use native.Mathlib.Nat.{zero-add}
use native.Mathlib.Omega.{arith}
use mathlib.Core.List.{[], ◌++◌, append-nil, append_assoc}
use mathlib.Core.Option.{none, some}
use lib.ListN.{length, take, drop, replicate, length-append, drop_of_length-le, take-append-drop}
use lib.Seq.{sets, sets-eq, length-sets, length-take-le, length_front, take_all, take_at, drop_at, drop-append-le}
use borrow.Author.Tests.{lt-ltb, le-ltb, ne_eqb, le-leb}
use Rattle.cel_text.specs.Byte.{Text}
use Rattle.cel_text.specs.Tree.{Tree}
use Rattle.cel_text.specs.Reading.{accepted, read, limits, max_nodes, Fault}
use Rattle.cel_text.specs.Table.{Words, Left, untouched, cleared, filled, rows, hold, hold_over, nodes_left, node_words}
use Rattle.cel_text.specs.Answer.{Found, tree, fault, find_tree, answered, nodes_after, tree_answer, Answer as TreeAnswer, fault_number}
use Rattle.cel_text.proofs.Laws.Table.{hold-front}
use Rattle.cel_policy.specs.Policy.{Span, Policy, Counted, counted, string_count, no_policy, all_strings, numbers}
use Rattle.cel_policy.specs.Printed.{max_response_only}
use Rattle.cel_policy.specs.Mapping.{Node, Mapped, good, bad, node_of, mapping}
use Rattle.cel_policy.specs.Spans.{span_rows, span_words, span_table, spans_left}
use Rattle.cel_policy.specs.Answers.{unread, judged, map_tree, find_policy, PolicyAnswer, policy_answered, nodes_held, spans_held, policy_answer}
use Rattle.cel_policy.proofs.Laws.Shape.{Shape, skips, certifies}
use Rattle.cel_policy.specs.Sizes.{size}
use Rattle.cel_policy.proofs.Laws.Counts.{Meets, OfMapping, meets-mapping}
use Rattle.cel_text.proofs.Laws.Find.{FindsTree, finds, too_short, too_long, not_ascii, broken, whole, fault_number-range}
use Rattle.cel_policy.proofs.Laws.SpanTable.{length-span_rows}
use Rattle.parser.specs.Found.{told}
use Rattle.parser.specs.Set.{string_set}
use Rattle.parser.specs.declared.Answer.{Answer}
use Rattle.parser.proofs.Answers.{cleared_from, clear-all}
use Rattle.ast_mapping.specs.declared.PolicyAnswer.{PolicyAnswer as Told-answer}
use Rattle.ast_mapping.specs.View.{node_at, Held}
use Rattle.ast_mapping.specs.Spans.{policy_told, strings_in, counts_in, spare_from, settled_answer, Settled, TreeMapped}
use Rattle.ast_mapping.proofs.Written.{Rooted, rooted}

-- ---- what reading a tree can find

fault_number-low : (f : Fault) → (1 ≤ fault_number f) × (fault_number f ≤ 6)
fault_number-low f = omega (arith, fault_number-range f)

module _ (w : ℕ) (x : Text) where
  -- a tree is what the text reads as; a fault has a number of 1 to 6
  abbrev Right : Found → Type 0
  Right (tree t q) = read string_set limits x ≡ accepted t q
  Right (fault r p) = (1 ≤ r) × (r ≤ 6)

  right : Right (find_tree string_set w x)
  right = by (finds string_set w x)
    where
      by : {f : Found} → FindsTree string_set w x f → Right f
      by (too_short a) = omega arith
      by (too_long a b) = omega arith
      by (not_ascii a b c) = omega arith
      by (broken {f = f} p e) = fault_number-low f
      by (whole p e) = e

-- ---- what the mapping can give

shape-few : {p : Policy Span} → Shape p → length (all_strings p) ≤ max_response_only
shape-few skips = omega arith
shape-few (certifies none l h) = h
shape-few (certifies (some r) l h) = simp length-append (omega arith)

abbrev Refusing : Mapped (Policy Span) → Type 0
Refusing (good p) = Unit {0}
Refusing (bad r) = OfMapping r.refusal

module _ (root : Node Span) (small : size root ≤ max_nodes) where
  pub mapped-few : (m : Mapped (Policy Span)) → m ≡ mapping root → length (strings_in m) ≤ max_response_only
  mapped-few m e = by m (subst (Meets _) (sym e) (meets-mapping root))
    where
      by : (m : Mapped (Policy Span)) → Meets (λ (p : Policy Span). size root ≤ max_nodes → Shape p) m → length (strings_in m) ≤ max_response_only
      by (good p) h = shape-few (h small)
      by (bad r) h = omega arith

  mapped-refusing : (m : Mapped (Policy Span)) → m ≡ mapping root → Refusing m
  mapped-refusing m e = by m (subst (Meets _) (sym e) (meets-mapping root))
    where
      by : (m : Mapped (Policy Span)) → Meets (λ (p : Policy Span). size root ≤ max_nodes → Shape p) m → Refusing m
      by (good p) h = tt
      by (bad r) h = h

pub root-small : {w : Words} {x : Text} → Held w x 0 → size (node_at w x 0) ≤ max_nodes
root-small h = omega (arith, h.small)

-- ---- what is left of the tables

left-filled : (r : ℕ) → OfMapping r → nodes_left r ≡ filled
left-filled r h =
    let some : r ≡ 0 → ⊥ = λ e. omega (arith, h.0) in
    let more : r ≡ 1 → ⊥ = λ e. omega (arith, h.0) in
    rw (ne_eqb r 0 some, ne_eqb r 1 more, le-leb 7 r h.0, le-leb r 16 h.1)

abbrev Unfilled : Left → Type 0
Unfilled untouched = Unit {0}
Unfilled cleared = Unit {0}
Unfilled filled = ⊥

left-unfilled : (r : ℕ) → 1 ≤ r → Unfilled (spans_left r)
left-unfilled zero h = absurd (omega arith)
left-unfilled (suc zero) h = tt
left-unfilled (suc (suc r)) h =
    let some : suc (suc r) ≡ 0 → ⊥ = λ e. omega arith in
    let more : suc (suc r) ≡ 1 → ⊥ = λ e. omega arith in
    rw (ne_eqb (suc (suc r)) 0 some, ne_eqb (suc (suc r)) 1 more) tt

-- what both ways of holding have in common; `end` is the first word after the strings that is cleared
pub record Way (holding : Left → ℕ → Words → Words → Words) (end : Counted → ℕ) : Type 0 where
  pub untouches : (n : ℕ) (ws w : Words) → holding untouched n ws w ≡ w
  pub clears : (n : ℕ) (ws w : Words) → holding cleared n ws w ≡ replicate n 0 ++ drop n w
  pub begins : (n : ℕ) (ws w : Words) → (rest : Words) × (holding filled n ws w ≡ ws ++ rest)
  pub front : (l : Left) (n : ℕ) (ws w : Words) → length ws ≤ n → n ≤ length w → holding l n ws (take n w) ++ drop n w ≡ holding l n ws w
  pub fills : (p : Policy Span) (s : Words) → length s ≡ span_words → length (span_table p) ≤ span_words
      → cleared_from (sets s 0 (span_table p)) (end (counted p)) ≡ holding filled span_words (span_table p) s

-- the strings, then zeros
pub zeros : Way hold (λ (k : Counted). 2 * string_count k)
unfolding span_table
zeros =
    record {
      untouches = λ n ws w. refl;
      clears = λ n ws w. refl;
      begins = λ n ws w. (_, refl);
      front = λ l n ws w h long. hold-front l n ws w;
      fills = fill;
    }
  where
    fill : (p : Policy Span) (s : Words) → length s ≡ span_words → length (span_table p) ≤ span_words
        → cleared_from (sets s 0 (span_table p)) (2 * string_count (counted p)) ≡ hold filled span_words (span_table p) s
    fill p s long h =
        let rows : Words = span_rows (all_strings p) in
        let count : string_count (counted p) ≡ length (all_strings p) = simp length-append (omega arith) in
        let size : length rows ≡ 2 * string_count (counted p) = length-span_rows (all_strings p) ∙ ap (λ (n : ℕ). 2 * n) (sym count) in
        let fits : 0 + length rows ≤ length s = omega arith in
        let long' : length (sets s 0 rows) ≡ span_words = length-sets s 0 rows ∙ long in
        let front : take (2 * string_count (counted p)) (sets s 0 rows) ≡ rows
        = rw (sets-eq rows s 0 fits) (take_at rows (drop (0 + length rows) s) (2 * string_count (counted p)) size) in
        let none : drop span_words s ≡ [] = drop_of_length-le s {i = span_words} (omega arith) in
        rw (front, long', sym size, none, append-nil)

-- the strings, then the words as lent
pub lent : Way hold_over (λ (k : Counted). span_words)
lent =
    record {
      untouches = λ n ws w. refl;
      clears = λ n ws w. refl;
      begins = λ n ws w. (_, refl);
      front = over-front;
      fills = fill;
    }
  where
    over-front : (l : Left) (n : ℕ) (ws w : Words) → length ws ≤ n → n ≤ length w → hold_over l n ws (take n w) ++ drop n w ≡ hold_over l n ws w
    over-front untouched n ws w h long = hold-front untouched n ws w
    over-front cleared n ws w h long = hold-front cleared n ws w
    over-front filled n ws w h long =
        let inside : length ws ≤ length (take n w) = omega (arith, length-take-le n w long) in
        append_assoc ws (drop (length ws) (take n w)) (drop n w)
        ∙ ap (λ (l : Words). ws ++ l) (sym (drop-append-le (length ws) (take n w) (drop n w) inside) ∙ ap (drop (length ws)) (take-append-drop n w))

    fill : (p : Policy Span) (s : Words) → length s ≡ span_words → length (span_table p) ≤ span_words
        → cleared_from (sets s 0 (span_table p)) span_words ≡ hold_over filled span_words (span_table p) s
    fill p s long h =
        let rows : Words = span_table p in
        let fits : 0 + length rows ≤ length s = omega arith in
        let long' : length (sets s 0 rows) ≡ span_words = length-sets s 0 rows ∙ long in
        let none : length (sets s 0 rows) - span_words ≡ 0 = omega arith in
        rw (none, take_all span_words (sets s 0 rows) (omega arith), append-nil) (sets-eq rows s 0 fits ∙ ap (λ (n : ℕ). rows ++ drop n s) (zero-add (length rows)))

-- the counted words, after those before the others were replaced
pub counted_words : (w w' : Words) → length w' ≡ length (take span_words w) → span_words ≤ length w → span_words ≡ length (take span_words (w' ++ drop span_words w))
counted_words w w' e h =
    let room : span_words ≤ length (w' ++ drop span_words w) = omega (arith, length_front w w' span_words e) in
    sym (length-take-le span_words (w' ++ drop span_words w) room)

-- ---- reading a policy

module _ (holding : Left → ℕ → Words → Words → Words) (end : Counted → ℕ) (way : Way holding end) (x : Text) where
  -- a refusal of the counted words s alone
  spare-kept : (l : Left) → Unfilled l → (s : Words) → length s ≡ span_words → (i : ℕ) → cleared_from s (spare_from l i) ≡ holding l span_words [] s
  spare-kept untouched h s long i =
      let none : length s - span_words ≡ 0 = omega arith in
      rw (none, take_all span_words s (omega arith), append-nil s) (sym (way.untouches span_words [] s))
  spare-kept cleared h s long i =
      let none : drop span_words s ≡ [] = drop_of_length-le s {i = span_words} (omega arith) in
      clear-all s span_words long
      ∙ sym (way.clears span_words [] s ∙ ap (λ (l : Words). replicate span_words 0 ++ l) none ∙ append-nil (replicate span_words 0))
  spare-kept filled h s long i = absurd h

  settled-spans : (t : Tree) (q : ℕ) (m : Mapped (Policy Span)) → Refusing m → length (strings_in m) ≤ max_response_only → (s : Words) → length s ≡ span_words
      → cleared_from (sets s 0 (span_rows (strings_in m))) (spare_from (spans_left (settled_answer (answered (tree t q)) m).refusal) (end (counts_in m)))
      ≡ spans_held holding (judged t m) s
  unfolding span_table
  settled-spans t q (good p) h few s long = way.fills p s long (omega (arith, length-span_rows (all_strings p)))
  settled-spans t q (bad r) h few s long = spare-kept (spans_left r.refusal) (left-unfilled r.refusal (omega (arith, h.0))) s long (end no_policy)

  settled-nodes : (t : Tree) (m : Mapped (Policy Span)) → Refusing m → (w : Words) → holding filled node_words (rows t) w ≡ nodes_held holding (judged t m) w
  settled-nodes t (good p) h w = refl
  settled-nodes t (bad r) h w = rw (left-filled r.refusal h)

  settled-answer : (t : Tree) (q : ℕ) (m : Mapped (Policy Span))
      → record { answer = settled_answer (answered (tree t q)) m; policy = counts_in m } ≡ policy_answered (judged t m)
  settled-answer t q (good p) = refl
  settled-answer t q (bad r) = refl

  spans-front : (t : Tree) (m : Mapped (Policy Span)) → length (strings_in m) ≤ max_response_only → (s : Words) → span_words ≤ length s
      → spans_held holding (judged t m) (take span_words s) ++ drop span_words s ≡ spans_held holding (judged t m) s
  unfolding span_table
  spans-front t (good p) few s long = way.front filled span_words (span_table p) s (omega (arith, length-span_rows (all_strings p))) long
  spans-front t (bad r) few s long = way.front (spans_left r.refusal) span_words [] s (omega arith) long

  module _ (nodes spans : Words) where
    abbrev pub Ensured : (nodes' spans' : Words) → Told-answer → Type 0
    Ensured nodes' spans' r =
        (policy_told r ≡ policy_answer (length nodes) (length spans) x)
        × ((nodes' ≡ nodes_held holding (find_policy string_set (length nodes) (length spans) x) nodes)
        × (spans' ≡ spans_held holding (find_policy string_set (length nodes) (length spans) x) spans))

    pub ensured-short : {r : Told-answer} → length spans < span_words → policy_told r ≡ policy_answered (unread 1 0) → Ensured nodes spans r
    unfolding policy_answer
    ensured-short h e =
        rw (lt-ltb (length spans) span_words h) (e, (sym (way.untouches node_words [] nodes), sym (way.untouches span_words [] spans)))

    -- the same where f is what reading the tree found
    record Reads (f : Found) (nodes' spans' : Words) (r : Told-answer) : Type 0 where
      answer : policy_told r ≡ policy_answered (map_tree x f)
      table : nodes' ≡ nodes_held holding (map_tree x f) nodes
      spanned : spans' ≡ spans_held holding (map_tree x f) spans

    module _ (long : span_words ≤ length spans) (a : Answer) (nodes' : Words) where
      -- the counted words of the span table
      abbrev front : Words
      front = take span_words spans

      front_long : length front ≡ span_words
      front_long = length-take-le span_words spans long

      refused-reads : (n p : ℕ) → 1 ≤ n → told a ≡ answered (fault n p) → nodes' ≡ nodes_after holding (fault n p) nodes
          → (r : Told-answer) (s' : Words) → TreeMapped x a nodes' front s' r
          → Reads (fault n p) nodes' (cleared_from s' (spare_from (spans_left r.answer.refusal) (end (numbers r.policy))) ++ drop span_words spans) r
      refused-reads n p h e k r s' m =
          let number : a.refusal ≡ n = ap (λ (b : TreeAnswer). b.refusal) e in
          let f = m.refused (λ z. omega arith) in
          let same : r.answer.refusal ≡ n = ap (λ (b : PolicyAnswer). b.answer.refusal) f.0 ∙ number in
          record {
            answer = f.0 ∙ ap (λ (b : TreeAnswer). record { answer = b; policy = no_policy }) e;
            table = k;
            spanned =
                rw (f.1, same, spare-kept (spans_left n) (left-unfilled n h) front front_long (end (numbers r.policy)))
                (way.front (spans_left n) span_words [] spans (omega arith) long);
          }

      settled-reads : (t : Tree) (q : ℕ) → told a ≡ answered (tree t q) → nodes' ≡ nodes_after holding (tree t q) nodes
          → (m : Mapped (Policy Span)) → m ≡ mapping (node_of x t 0) → Refusing m → length (strings_in m) ≤ max_response_only
          → (r : Told-answer) (s' : Words) → Settled m a front s' r
          → Reads (tree t q) nodes' (cleared_from s' (spare_from (spans_left r.answer.refusal) (end (numbers r.policy))) ++ drop span_words spans) r
      settled-reads t q e k m is h few r s' s =
          let told-answer : policy_told r ≡ record { answer = settled_answer (answered (tree t q)) m; policy = counts_in m }
          = s.answer ∙ ap (λ (b : TreeAnswer). record { answer = settled_answer b m; policy = counts_in m }) e in
          let number : r.answer.refusal ≡ (settled_answer (answered (tree t q)) m).refusal = ap (λ (b : PolicyAnswer). b.answer.refusal) told-answer in
          let counts : numbers r.policy ≡ counts_in m = ap (λ (b : PolicyAnswer). b.policy) told-answer in
          record {
            answer = told-answer ∙ settled-answer t q m ∙ ap (λ (n : Mapped (Policy Span)). policy_answered (judged t n)) is;
            table = k ∙ settled-nodes t m h nodes ∙ ap (λ (n : Mapped (Policy Span)). nodes_held holding (judged t n) nodes) is;
            spanned =
                rw (s.rows, number, counts, settled-spans t q m h few front front_long) (spans-front t m few spans long)
                ∙ ap (λ (n : Mapped (Policy Span)). spans_held holding (judged t n) spans) is;
          }

      module _ (e : told a ≡ tree_answer (length nodes) x) (k : nodes' ≡ nodes_after holding (find_tree string_set (length nodes) x) nodes) where
        held_by : (f : Found) → Right (length nodes) x f → told a ≡ answered f → nodes' ≡ nodes_after holding f nodes → a.refusal ≡ 0
            → (t : Tree) × (q : ℕ) × (f ≡ tree t q) × Rooted nodes' x t
        held_by (tree t q) h e k z = let b = way.begins node_words (rows t) nodes in (t, q, refl, rooted string_set x t q h nodes' b.0 (k ∙ b.1))
        held_by (fault n p) h e k z = absurd (omega (arith, h.0, ap (λ (b : TreeAnswer). b.refusal) e))

        root-found : a.refusal ≡ 0 → (t : Tree) × (q : ℕ) × (find_tree string_set (length nodes) x ≡ tree t q) × Rooted nodes' x t
        unfolding tree_answer
        root-found z = held_by (find_tree string_set (length nodes) x) (right (length nodes) x) e k z

        pub root-held : a.refusal ≡ 0 → Held nodes' x 0
        root-held z = (root-found z).3.root

        mapped-reads : (f : Found) → Right (length nodes) x f → told a ≡ answered f → nodes' ≡ nodes_after holding f nodes
            → (r : Told-answer) (s' : Words) → TreeMapped x a nodes' front s' r
            → Reads f nodes' (cleared_from s' (spare_from (spans_left r.answer.refusal) (end (numbers r.policy))) ++ drop span_words spans) r
        mapped-reads (fault n p) h e k r s' m = refused-reads n p h.0 e k r s' m
        mapped-reads (tree t q) h e k r s' m =
            let z : a.refusal ≡ 0 = ap (λ (b : TreeAnswer). b.refusal) e in
            let b = way.begins node_words (rows t) nodes in
            let root : Rooted nodes' x t = rooted string_set x t q h nodes' b.0 (k ∙ b.1) in
            let small : size (node_at nodes' x 0) ≤ max_nodes = root-small root.root in
            settled-reads t q e k (mapping (node_at nodes' x 0)) (ap mapping root.is) (mapped-refusing (node_at nodes' x 0) small _ refl)
            (mapped-few (node_at nodes' x 0) small _ refl) r s' (m.accepted z)

        -- v is what clearing leaves of the counted words
        pub ensured : (r : Told-answer) (s' : Words) → TreeMapped x a nodes' front s' r → length s' ≡ length front
            → (i : ℕ) → i ≡ spare_from (spans_left r.answer.refusal) (end (numbers r.policy))
            → (v : Words) → v ≡ cleared_from (take span_words (s' ++ drop span_words spans)) i → Ensured nodes' (v ++ drop span_words (s' ++ drop span_words spans)) r
        unfolding policy_answer tree_answer
        ensured r s' m same i c v u =
            let whole : length s' ≡ span_words = same ∙ front_long in
            let f = mapped-reads (find_tree string_set (length nodes) x) (right (length nodes) x) e k r s' m in
            rw (le-ltb (length spans) span_words long, u, take_at s' (drop span_words spans) span_words whole, drop_at s' (drop span_words spans) span_words whole, c)
            (f.answer, (f.table, f.spanned))
