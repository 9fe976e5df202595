-- A tree that was read, and the table with its rows: each node stands at its number, and its names and keys lie in the text. Assumes nothing.
use mathlib.Core.Path.{◌≡◌, refl, sym, ap, ◌∙◌}
use Prim.Native.Nat.{ℕ, suc, ◌+◌, ◌*◌, ◌≤◌}
use native.Mathlib.Omega.{arith}
use mathlib.Core.Bool.{Bool}
use mathlib.Core.List.{[], ◌∷◌, ◌++◌}
use lib.ListN.{length, get_or, length-append}
use lib.Seq.{slice, get_or-drop}
use Rattle.cel_text.specs.Byte.{Text, ◌⧺◌}
use Rattle.cel_text.specs.Tree.{Kind, array, opener, closer, Key, unkeyed, key, Tree, string, container, Trees, ∅, ◌▸◌∶◌, nodes, nodes_all, count}
use Rattle.cel_text.specs.Grammar.{Named, nameless, with_name, Head, array_head, object_head, function_head, Label, in_array, in_function, in_object, Value, a_string, a_container, no_child, one_more}
use Rattle.cel_text.specs.Table.{Words, row, rows_of, rows_all, rows, row_words, key_from, key_to, kind_number, word}
use Rattle.cel_text.specs.Reading.{read, accepted, limits, max_nodes}
use Rattle.cel_text.proofs.Laws.Sound.{sound, within}
use Rattle.cel_text.proofs.Laws.Table.{length-rows_of, length-rows_all}
use Rattle.cel_policy.specs.Mapping.{key_bytes, node_of, nodes_of}
use Rattle.cel_policy.proofs.Laws.Places.{Here, here-left, here-right}
use Rattle.cel_policy.specs.Sizes.{sizes}
use Rattle.cel_policy.proofs.Laws.Counts.{size-node_of}
use Rattle.ast_mapping.specs.View.{node_at, number, Stands, StandAll, Held}
use Rattle.ast_mapping.proofs.View.{read_back, held}

-- ---- names and keys lie in the text

abbrev mutual
  Inside : Tree → ℕ → Type 0
  Inside (string o to q) L = Unit {0}
  Inside (container c o from to q ts) L = (from ≤ to) × (to ≤ L) × InsideAll ts L

  InsideAll : Trees → ℕ → Type 0
  InsideAll ∅ L = Unit {0}
  InsideAll (ts ▸ k ∶ t) L = InsideAll ts L × (key_from k ≤ key_to k) × (key_to k ≤ L) × Inside t L

named-ends : {p : ℕ} {h : Text} {from to : ℕ} → Named p h from to → (from ≤ to) × (to ≤ p + length h)
named-ends {p} (nameless {b = b} bs) = omega arith
named-ends {p} (with_name {b = b} {i = i} {is = is} {c = c} bs n cs) = (omega arith, simp length-append (omega arith))

head-ends : {c : Kind} {p : ℕ} {h : Text} {from to : ℕ} → Head c p h from to → (from ≤ to) × (to ≤ p + length h)
head-ends (array_head bs) = omega arith
head-ends (object_head n) = named-ends n
head-ends (function_head n) = named-ends n

label-ends : {c : Kind} {p : ℕ} {l : Text} {k : Key} → Label c p l k → (key_from k ≤ key_to k) × (key_to k ≤ p + length l)
label-ends in_array = omega arith
label-ends in_function = omega arith
label-ends {p = p} (in_object {l = l} n) = ((named-ends n).0, simp length-append (omega (arith, (named-ends n).1)))

module _ (S : ℕ → Bool) (L : ℕ) where
  inside-container : (p : ℕ) (c : Kind) (h v b : Text) (from to : ℕ) (ts : Trees) → Head c p h from to
      → (suc (p + length h) + length v ≤ L → InsideAll ts L)
      → p + length (h ⧺ (opener c ∷ v) ⧺ b ⧺ closer c ∷ []) ≤ L → (from ≤ to) × (to ≤ L) × InsideAll ts L
  inside-container p c h v b from to ts hd kids l =
      let all : p + (length h + (suc (length v) + (length b + 1))) ≤ L = simp length-append at l in
      ((head-ends hd).0, omega (arith, (head-ends hd).1), kids (omega arith))

  inside-more : (p : ℕ) (c : Kind) (vs s l v : Text) (ts : Trees) (k : Key) (t : Tree)
      → (p + length vs ≤ L → InsideAll ts L) → Label c (p + length vs + length s) l k → (p + length vs + length s + length l + length v ≤ L → Inside t L)
      → p + length (vs ⧺ s ⧺ l ⧺ v) ≤ L → InsideAll (ts ▸ k ∶ t) L
  inside-more p c vs s l v ts k t kids lab val h =
      let all : p + (length vs + (length s + (length l + length v))) ≤ L = simp length-append at h in
      (kids (omega arith), (label-ends lab).0, omega (arith, (label-ends lab).1), val (omega arith))

  inside-value : {p : ℕ} {v : Text} {t : Tree} → Value S p v t → p + length v ≤ L → Inside t L
  inside-value d =
      elim d as (λ p v t d. p + length v ≤ L → Inside t L) (λ c p vs ts d. p + length vs ≤ L → InsideAll ts L) [
        | a_string bs is cs ↦ (λ l. tt)
        | a_container {p = p} {c = c} {h = h} {v = v} {b = b} {from = from} {to = to} {ts = ts} hd (ch → ih) bs ↦ inside-container p c h v b from to ts hd ih
        | no_child ↦ (λ l. tt)
        | one_more {c = c} {p = p} {vs = vs} {s = s} {l = l} {v = v} {ts = ts} {k = k} {t = t} (ch → h) sep lab (val → ih) ↦ inside-more p c vs s l v ts k t h lab ih
      ]

inside : (S : ℕ → Bool) (x : Text) (t : Tree) (q : ℕ) → read S limits x ≡ accepted t q → Inside t (length x)
inside S x t q e =
    let r = sound S limits x t q e in
    inside-value S (length x) r.reads (omega (arith, simp length-append at (ap length r.split)))

-- ---- the rows of a tree are those of its nodes

number_of : (x : Text) (t : Tree) (n : ℕ) → number (node_of x t n) ≡ n
number_of x (string o to q) n = refl
number_of x (container c o from to q ts) n = refl

sizes-of : (x : Text) (ts : Trees) (n : ℕ) → sizes (nodes_of x ts (suc n)) ≡ nodes_all ts
sizes-of x ts n = omega (arith, size-node_of x (container array 0 0 0 0 ts) n)

key-slice : (x : Text) (k : Key) → slice (key_from k) (key_to k) x ≡ key_bytes x k
key-slice x unkeyed = refl
key-slice x (key from to) = refl

module _ (w : Words) (x : Text) where
  -- the words of a row, where it stands
  word_at : (n : ℕ) {ws : Words} (h : Here w (row_words * n) ws) (i : ℕ) → word w n i ≡ get_or (ws ++ h.rest) i 0
  word_at n h i = sym (get_or-drop (row_words * n) w i 0) ∙ ap (λ (l : Words). get_or l i 0) h.cut

  key-words : (t : Tree) (k : Key) (u n : ℕ) → Here w (row_words * n) (rows_of t k u n) → (word w n 3 ≡ key_from k) × (word w n 4 ≡ key_to k)
  key-words (string o to q) k u n h = (word_at n h 3, word_at n h 4)
  key-words (container c o from to q ts) k u n h = (word_at n h 3, word_at n h 4)

  mutual
    stand : (t : Tree) (k : Key) (u n : ℕ) → Here w (row_words * n) (rows_of t k u n) → row_words * (n + nodes t) ≤ length w → Inside t (length x) → Stands (node_of x t n) w x
    stand (string o to q) k u n h l i =
        (record { kind = word_at n h 0; past = word_at n h 7; within = omega arith }, rw (word_at n h 1, word_at n h 2))
    stand (container c o from to q ts) k u n h l i =
        let head : Words = row (kind_number c) from to k u (count ts) (suc n + nodes_all ts) in
        let kids : Here w (row_words * n + row_words) (rows_all ts (suc n) (suc n)) = here-right head (rows_all ts (suc n) (suc n)) h in
        let place : row_words * n + row_words ≡ row_words * suc n = omega arith in (
          record { kind = word_at n h 0; past = word_at n h 7 ∙ omega (arith, sizes-of x ts n); within = omega (arith, sizes-of x ts n) },
          rw (word_at n h 1, word_at n h 2) (record { ordered = i.0; inside = i.1; is = refl }),
          stand-all ts (suc n) n (rw place at kids) (omega arith) i.2,
        )

    stand-all : (ts : Trees) (u n : ℕ) → Here w (row_words * suc n) (rows_all ts u (suc n)) → row_words * (suc n + nodes_all ts) ≤ length w → InsideAll ts (length x)
        → StandAll (nodes_of x ts (suc n)) w x (suc n)
    stand-all ∅ u n h l i = tt
    stand-all (ts ▸ k ∶ t) u n h l i =
        let m : ℕ = suc n + nodes_all ts in
        let place : row_words * suc n + length (rows_all ts u (suc n)) ≡ row_words * m = omega (arith, length-rows_all ts u (suc n)) in
        let here : Here w (row_words * m) (rows_of t k u m) = rw place at (here-right (rows_all ts u (suc n)) (rows_of t k u m) h) in
        let words : (word w m 3 ≡ key_from k) × (word w m 4 ≡ key_to k) = key-words t k u m here in (
          stand-all ts u n (here-left (rows_all ts u (suc n)) (rows_of t k u m) h) (omega arith) i.0,
          number_of x t m ∙ omega (arith, sizes-of x ts n),
          rw (number_of x t m, words.0, words.1) (record { ordered = i.1; inside = i.2; is = key-slice x k }),
          stand t k u m here (omega arith) i.3,
        )

-- a table that begins with the rows of the text's tree
pub record Rooted (w : Words) (x : Text) (t : Tree) : Type 0 where
  pub is : node_at w x 0 ≡ node_of x t 0
  pub root : Held w x 0

pub rooted : (S : ℕ → Bool) (x : Text) (t : Tree) (q : ℕ) → read S limits x ≡ accepted t q → (w rest : Words) → w ≡ rows t ++ rest → Rooted w x t
rooted S x t q e w rest c =
    let small : nodes t ≤ max_nodes = (within S x t q e).1 in
    let long : length w ≡ length (rows t) + length rest = ap length c ∙ length-append (rows t) rest in
    let st : Stands (node_of x t 0) w x = stand w x t unkeyed 0 0 (record { rest = rest; cut = c }) (omega (arith, long, length-rows_of t unkeyed 0 0)) (inside S x t q e) in
    let number : number (node_of x t 0) ≡ 0 = number_of x t 0 in
    record {
      is = rw number at (read_back w x (node_of x t 0) st (rw (size-node_of x t 0) small));
      root = rw number at (held w x (node_of x t 0) st (omega (arith, number, size-node_of x t 0, small)));
    }
