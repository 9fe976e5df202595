-- The node table: how many words the rows of a tree take, a row read back, and reading over a table that was cleared. Assumes nothing.
use Rattle.std.specs.Prelude.{◌≡◌, refl, ℕ, zero, suc, ◌+◌, ◌-◌, ◌*◌, ◌≤◌, Bool, [], ◌++◌, length, take, drop, replicate}
use Rattle.std.proofs.Common.{ap, ◌∙◌, arith, append-nil, append_assoc, take-append-drop, length-append, length-drop, drop_at, le-leb}
use Rattle.std.proofs.Math.Nat.{sub-zero, zero-sub, suc-sub-suc}
use Rattle.std.proofs.lemmas.List.{length-replicate, drop-append-le}
use Rattle.std.proofs.Math.Seq.{slice_empty}
use Rattle.cel_text.specs.Byte.{Text, string_byte}
use Rattle.cel_text.specs.Tree.{Key, unkeyed, Tree, string, container, Trees, ∅, ◌▸◌∶◌, nodes, nodes_all}
use Rattle.cel_text.specs.Reading.{syntax, too_deep, too_many, accepted, read, limits, Fault}
use Rattle.cel_text.specs.Table.{Words, rows_of, rows_all, rows, row_words, words_at, row_at, node_words, Left, untouched, cleared, filled, hold, hold_over}
use Rattle.cel_text.specs.Answer.{Found, nodes_after, tree_answer, tree_table, tree_over, fault, fault_number}
use Rattle.cel_text.proofs.Laws.Sound.{within}
use Rattle.cel_text.proofs.Laws.Find.{FindsTree, too_short, too_long, not_ascii, broken, whole, finds}

-- eight words for each node
mutual
  pub length-rows_of : (t : Tree) (k : Key) (u n : ℕ) → length (rows_of t k u n) ≡ row_words * nodes t
  length-rows_of (string o to q) k u n = refl
  length-rows_of (container c o from to q ts) k u n = omega (arith, length-rows_all ts (suc n) (suc n))

  pub length-rows_all : (ts : Trees) (u n : ℕ) → length (rows_all ts u n) ≡ row_words * nodes_all ts
  length-rows_all ∅ u n = refl
  length-rows_all (ts ▸ k ∶ t) u n =
      length-append (rows_all ts u n) (rows_of t k u (n + nodes_all ts)) ∙ omega (arith, length-rows_all ts u n, length-rows_of t k u (n + nodes_all ts))

-- the rows of a tree that was read fit the words that count
pub rows_fit : (S : ℕ → Bool) (x : Text) (t : Tree) (q : ℕ) → read S limits x ≡ accepted t q → length (rows t) ≤ node_words
rows_fit S x t q e = omega (arith, length-rows_of t unkeyed 0 0, (within S x t q e).1)

-- where the table has the whole row, it is its words
pub row_inside : (ws : Words) (n : ℕ) → row_words * suc n ≤ length ws → row_at ws n ≡ words_at ws n
row_inside ws n h = rw (le-leb (row_words * suc n) (length ws) h)

-- ---- what a lent table holds

-- where the counted words alone are lent, the others stay behind them
pub hold-front : (l : Left) (n : ℕ) (ws w : Words) → hold l n ws (take n w) ++ drop n w ≡ hold l n ws w
hold-front untouched n ws w = take-append-drop n w
hold-front cleared n ws w = rw (slice_empty, append-nil)
hold-front filled n ws w = rw (slice_empty, append-nil, append_assoc)

drop-zeros : (i n : ℕ) → drop {A = ℕ} i (replicate n 0) ≡ replicate (n - i) 0
drop-zeros zero n = rw sub-zero
drop-zeros (suc i) zero = rw zero-sub
drop-zeros (suc i) (suc n) = rw suc-sub-suc (drop-zeros i n)

-- what is left of a table whose n counted words were cleared before is what is left of the table, whatever it held
pub hold-cleared : (l : Left) (n : ℕ) (ws w : Words) → (l ≡ untouched → ⊥) → length ws ≤ n → hold_over l n ws (replicate n 0 ++ drop n w) ≡ hold l n ws w
hold-cleared untouched n ws w some h = absurd (some refl)
hold-cleared cleared n ws w some h = rw (drop_at (replicate n 0) (drop n w) n (length-replicate {A = ℕ} n 0))
hold-cleared filled n ws w some h =
    let long : length (replicate {A = ℕ} n 0) ≡ n = length-replicate {A = ℕ} n 0 in
    rw (drop-append-le (length ws) (replicate n 0) (drop n w) (omega arith), drop-zeros (length ws) n)

pub length-cleared : (n : ℕ) (w : Words) → n ≤ length w → length (replicate n 0 ++ drop n w) ≡ length w
length-cleared n w h = length-append (replicate n 0) (drop n w) ∙ omega (arith, length-replicate {A = ℕ} n 0, length-drop n w)

module _ (x : Text) (w : Words) (h : node_words ≤ length w) where
  -- the table with its counted words cleared
  abbrev pub clean : Words
  clean = replicate node_words 0 ++ drop node_words w

  abbrev Same : Found → Type 0
  Same f = nodes_after hold_over f clean ≡ nodes_after hold f w

  same-cleared : hold_over cleared node_words [] clean ≡ hold cleared node_words [] w
  same-cleared = hold-cleared cleared node_words [] w (λ e. let z : ◌≡◌ {A = ℕ} 0 1 = cc in omega arith) (omega arith)

  same-fault : (f : Fault) (p : ℕ) → Same (fault (fault_number f) p)
  same-fault syntax p = same-cleared
  same-fault too_deep p = same-cleared
  same-fault too_many p = same-cleared

  same-found : {f : Found} → FindsTree string_byte (length w) x f → Same f
  same-found (too_short a) = absurd (omega arith)
  same-found (too_long a b) = same-cleared
  same-found (not_ascii a b c) = same-cleared
  same-found (broken {f = f} {p = p} a e) = same-fault f p
  same-found (whole {t = t} {q = q} a e) =
      hold-cleared filled node_words (rows t) w (λ e. let z : ◌≡◌ {A = ℕ} 0 1 = cc in omega arith) (rows_fit string_byte x t q e)

  -- to read over a cleared table is to read
  pub over-cleared : tree_over x clean ≡ tree_table x w
  unfolding tree_over tree_table
  over-cleared = rw (length-cleared node_words w h) (same-found (finds string_byte (length w) x))

  pub answer-cleared : tree_answer (length clean) x ≡ tree_answer (length w) x
  answer-cleared = ap (λ (n : ℕ). tree_answer n x) (length-cleared node_words w h)
