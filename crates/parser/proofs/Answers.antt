-- From the value that a text begins with to the answer and the table of `read_over`. Assumes nothing.
use Rattle.std.proofs.Common.{◌≡◌, ℕ, ◌+◌, ◌-◌, ◌<◌, ◌≤◌, Result, Ok, Err, [], ◌++◌, length, take, drop, replicate, sym, refl, ap, ◌∙◌, append_assoc, append-nil, zero-add, arith, take-append-drop, length-take-le, take_all, le-ltb, lt-ltb}
use native.Mathlib.Nat.{sub-zero}
use lib.Seq.{sets, sets-eq, drop-append-le}
use Rattle.cel_text.specs.Byte.{Text, ascii, lead}
use Rattle.cel_text.specs.Tree.{Tree, nodes, unkeyed}
use Rattle.cel_text.specs.Reading.{Fault, syntax, too_deep, too_many, root, read, limits, max_depth}
use Rattle.cel_text.specs.Table.{Words, rows, Left, cleared, hold_over, nodes_left, node_words}
use Rattle.cel_text.proofs.Laws.Table.{length-rows_of}
use Rattle.cel_text.proofs.Laws.Find.{find-passes}
use Rattle.cel_text.specs.Answer.{Found, tree, fault, found, find_tree, nodes_after, refused_at, tree_answer, tree_table, tree_over, fault_number, max_text}
use Rattle.parser.specs.Set.{string_set}
use Rattle.parser.specs.declared.Read.{Read}
use Rattle.parser.specs.declared.Refused.{Refused}
use Rattle.parser.specs.Faults.{number_of}
use Rattle.parser.specs.Run.{end_of}
use Rattle.parser.specs.Steps.{Valued, root_slot}
use Rattle.parser.specs.Found.{Finds, Small, answer_of, stale_from}

-- ---- the value

find-read : (x : Text) (p : ℕ) → length x ≤ max_text → p ≡ end_of ascii x 0 → length x ≤ p → find_tree string_set node_words x ≡ found (read string_set limits x)
find-read x p h e b =
    let here : p ≡ lead ascii x = e ∙ zero-add (lead ascii x) in
    find-passes string_set node_words x (record { enough = omega arith; short = h; low = omega arith })

fault-clears : (f : Fault) → nodes_left (fault_number f) ≡ cleared
fault-clears syntax = refl
fault-clears too_deep = refl
fault-clears too_many = refl

pub find-value : (x : Text) (w w' : Words) (p : ℕ) → length x ≤ max_text → p ≡ end_of ascii x 0 → length x ≤ p → (s : Result Read Refused) → Valued x w w' root_slot max_depth s → Finds x w w' s
find-value x w w' p h e b (Ok r) v =
    record {
      found = v.tree;
      finds = find-read x p h e b ∙ ap found (v.reading root (record { below = refl; sofar = refl }));
      rows_put = v.rows unkeyed refl refl;
      sized = v.sized;
    }
find-value x w w' p h e b (Err r) v =
    record {
      finds = find-read x p h e b ∙ ap found (v.refuses root (record { below = refl; sofar = refl })) ∙ ap (λ (n : ℕ). fault n r.place.0) v.number;
      clears = rw (sym v.number) (fault-clears v.fault);
      within = omega (arith, v.within);
    }

-- ---- the answer and the table

pub small : (x : Text) (w w' : Words) (s : Result Read Refused) → Finds x w w' s → Small s
small x w w' (Ok r) f = (f.sized.room, f.sized.shallow)
small x w w' (Err r) f = f.within

find-wide : (x : Text) (n : ℕ) → node_words ≤ n → find_tree string_set n x ≡ find_tree string_set node_words x
find-wide x n h = rw (le-ltb n node_words h)

-- the table w', cleared from a place on
abbrev pub cleared_from : Words → ℕ → Words
cleared_from w' i = take i w' ++ replicate (length w' - i) 0

clear_none : (w' : Words) (n : ℕ) → length w' ≡ n → cleared_from w' n ≡ w'
clear_none w' n h =
    let none : length w' - n ≡ 0 = omega arith in
    rw (none, take_all n w' (omega arith)) (append-nil w')

pub clear-all : (w' : Words) (n : ℕ) → length w' ≡ n → cleared_from w' 0 ≡ replicate n 0
clear-all w' n h = rw (sub-zero, h)

-- words put at the start of the first n
put_front : (n : ℕ) (ws w : Words) → length ws ≤ n → n ≤ length w → sets (take n w) 0 ws ++ drop n w ≡ ws ++ drop (length ws) w
put_front n ws w hs hw =
    let long : length (take n w) ≡ n = length-take-le n w hw in
    let fits : 0 + length ws ≤ length (take n w) = omega arith in
    let inside : length ws ≤ length (take n w) = omega arith in
    ap (λ (l : Words). l ++ drop n w) (sets-eq ws (take n w) 0 fits)
    ∙ append_assoc ws (drop (0 + length ws) (take n w)) (drop n w)
    ∙ ap (λ (k : ℕ). ws ++ (drop k (take n w) ++ drop n w)) (zero-add (length ws))
    ∙ ap (λ (l : Words). ws ++ l) (sym (drop-append-le (length ws) (take n w) (drop n w) inside) ∙ ap (drop (length ws)) (take-append-drop n w))

-- a table w with the counted words and perhaps more, of which those are lent
module _ (x : Text) (w : Words) (h : node_words ≤ length w) where
  pub find-answer : (w' : Words) (s : Result Read Refused) → Finds x (take node_words w) w' s → answer_of s ≡ tree_answer (length w) x
  unfolding tree_answer
  find-answer w' (Ok r) f =
      let counts : r.next.0 ≡ nodes f.found = f.sized.counts ∙ zero-add (nodes f.found) in
      rw (find-wide x (length w) h, f.finds, counts, f.sized.deep)
  find-answer w' (Err r) f = rw (find-wide x (length w) h, f.finds)

  over-found : (f : Found) → find_tree string_set node_words x ≡ f → nodes_after hold_over f w ≡ tree_over x w
  unfolding tree_over
  over-found f e = rw (find-wide x (length w) h, e)

  over-front : (w' : Words) (s : Result Read Refused) → Finds x (take node_words w) w' s → length w' ≡ node_words
      → cleared_from w' (stale_from (nodes_left (answer_of s).refusal)) ++ drop node_words w ≡ tree_over x w
  over-front w' (Ok r) f h' =
      let t : Tree = f.found in
      let fits : length (rows t) ≤ node_words = omega (arith, length-rows_of t unkeyed 0 0, f.sized.counts, f.sized.room) in
      ap (λ (l : Words). l ++ drop node_words w) (clear_none w' node_words h' ∙ f.rows_put)
      ∙ put_front node_words (rows t) w fits h
      ∙ over-found (tree t r.end.0) f.finds
  over-front w' (Err r) f h' =
      ap (λ (l : Left). cleared_from w' (stale_from l) ++ drop node_words w) f.clears
      ∙ ap (λ (l : Words). l ++ drop node_words w) (clear-all w' node_words h')
      ∙ ap (λ (l : Left). hold_over l node_words [] w) (sym f.clears)
      ∙ over-found (fault (number_of r.fault) r.place.0) f.finds

  -- v is what clearing leaves of the words lent
  pub find-over : (w' : Words) (s : Result Read Refused) → Finds x (take node_words w) w' s → length w' ≡ length (take node_words w) → (i : ℕ) → i ≡ stale_from (nodes_left (answer_of s).refusal)
      → (v : Words) → v ≡ cleared_from w' i → v ++ drop node_words w ≡ tree_over x w
  find-over w' s f h' i e v c = rw (c, e) (over-front w' s f (h' ∙ length-take-le node_words w h))

-- a table that is too short
module _ (x : Text) where
  pub answer-short : (n : ℕ) → n < node_words → refused_at 1 0 ≡ tree_answer n x
  unfolding tree_answer
  answer-short n h = rw (lt-ltb n node_words h)

  pub over-short : (w : Words) → length w < node_words → w ≡ tree_over x w
  unfolding tree_over
  over-short w h = rw (lt-ltb (length w) node_words h)

  pub table-short : (w : Words) → length w < node_words → w ≡ tree_table x w
  unfolding tree_table
  table-short w h = rw (lt-ltb (length w) node_words h)
