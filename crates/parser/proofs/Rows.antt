-- Rows put into a table, one after the other or out of order, and how many words they take. Assumes nothing.
use Rattle.std.proofs.Common.{◌≡◌, ℕ, suc, ◌+◌, ◌*◌, ◌<◌, ◌≤◌, [], ◌∷◌, ◌++◌, length, set, sym, refl, ap, ◌∙◌, arith}
use lib.Seq.{sets, set_comm}
use Rattle.cel_text.specs.Tree.{Kind, Key, Tree, string, container, Trees, ◌▸◌∶◌, nodes_all, count}
use Rattle.cel_text.specs.Table.{Words, rows_of, rows_all, kind_number, key_from, key_to, string_kind, row_words}
pub use Rattle.cel_text.proofs.Laws.Table.{length-rows_of, length-rows_all}
pub use Rattle.pieces.specs.Laws.{sets-append}

set-sets : (vs l : Words) (i j a : ℕ) → j < i → set (sets l i vs) j a ≡ sets (set l j a) i vs
set-sets [] l i j a h = refl
set-sets (b ∷ vs) l i j a h = set-sets vs (set l i b) (suc i) j a (omega arith) ∙ ap (λ (w : Words). sets w (suc i) vs) (set_comm l i j b a (λ e. omega arith))

-- words before the place of others may be put first
sets-before : (vs ws l : Words) (i j : ℕ) → j + length ws ≤ i → sets (sets l i vs) j ws ≡ sets (sets l j ws) i vs
sets-before vs [] l i j h = refl
sets-before vs (a ∷ ws) l i j h = ap (λ (w : Words). sets w (suc j) ws) (set-sets vs l i j a (omega arith)) ∙ sets-before vs ws (set l j a) i (suc j) (omega arith)

-- one child more
pub rows_child : (w : Words) (ts : Trees) (k : Key) (t : Tree) (u n : ℕ) (m : ℕ) → m ≡ n + nodes_all ts
    → sets (sets w (row_words * n) (rows_all ts u n)) (row_words * m) (rows_of t k u m) ≡ sets w (row_words * n) (rows_all (ts ▸ k ∶ t) u n)
rows_child w ts k t u n m e =
    let place : row_words * (n + nodes_all ts) ≡ row_words * n + length (rows_all ts u n) = omega (arith, length-rows_all ts u n) in
    rw (e, place) (sym (sets-append (rows_all ts u n) (rows_of t k u (n + nodes_all ts)) w (row_words * n)))

-- a row's first six words, then its last two
pub rows-string : (w : Words) (o to q kf kt u n : ℕ) (k : Key) → key_from k ≡ kf → key_to k ≡ kt
    → sets (sets w (row_words * n) (string_kind ∷ suc o ∷ to ∷ kf ∷ kt ∷ u ∷ [])) (row_words * n + 6) (0 ∷ suc n ∷ []) ≡ sets w (row_words * n) (rows_of (string o to q) k u n)
rows-string w o to q kf kt u n k e e' = rw (sym e, sym e') (sym (sets-append (string_kind ∷ suc o ∷ to ∷ key_from k ∷ key_to k ∷ u ∷ []) (0 ∷ suc n ∷ []) w (row_words * n)))

-- the same of a container, whose children's rows are put between the two
pub rows-container : (w : Words) (c : Kind) (o from to q kf kt u n m : ℕ) (ts : Trees) (k : Key) → key_from k ≡ kf → key_to k ≡ kt → m ≡ suc n + nodes_all ts
    → sets (sets (sets w (row_words * n) (kind_number c ∷ from ∷ to ∷ kf ∷ kt ∷ u ∷ [])) (row_words * suc n) (rows_all ts (suc n) (suc n))) (row_words * n + 6) (count ts ∷ m ∷ [])
    ≡ sets w (row_words * n) (rows_of (container c o from to q ts) k u n)
rows-container w c o from to q kf kt u n m ts k e e' h =
    let six : Words = kind_number c ∷ from ∷ to ∷ key_from k ∷ key_to k ∷ u ∷ [] in
    let two : Words = count ts ∷ (suc n + nodes_all ts) ∷ [] in
    let place : row_words * suc n ≡ row_words * n + row_words = omega arith in
    rw (h, sym e, sym e')
    (sets-before (rows_all ts (suc n) (suc n)) two (sets w (row_words * n) six) (row_words * suc n) (row_words * n + 6) (omega arith)
    ∙ ap (λ (l : Words). sets l (row_words * suc n) (rows_all ts (suc n) (suc n))) (sym (sets-append six two w (row_words * n)))
    ∙ ap (λ (i : ℕ). sets (sets w (row_words * n) (six ++ two)) i (rows_all ts (suc n) (suc n))) place
    ∙ sym (sets-append (six ++ two) (rows_all ts (suc n) (suc n)) w (row_words * n)))

-- six stores, and two more, at places that are sums
pub put_six : (l : Words) (i a b c d e f : ℕ) → set (set (set (set (set (set l i a) (i + 1) b) (i + 2) c) (i + 3) d) (i + 4) e) (i + 5) f ≡ sets l i (a ∷ b ∷ c ∷ d ∷ e ∷ f ∷ [])
put_six l i a b c d e f =
    let h₁ : i + 1 ≡ suc i = omega arith in
    let h₂ : i + 2 ≡ suc (suc i) = omega arith in
    let h₃ : i + 3 ≡ suc (suc (suc i)) = omega arith in
    let h₄ : i + 4 ≡ suc (suc (suc (suc i))) = omega arith in
    let h₅ : i + 5 ≡ suc (suc (suc (suc (suc i)))) = omega arith in
    rw (h₁, h₂, h₃, h₄, h₅)

pub put_two : (l : Words) (i a b : ℕ) → set (set l (i + 6) a) (i + 7) b ≡ sets l (i + 6) (a ∷ b ∷ [])
put_two l i a b = let h : i + 7 ≡ suc (i + 6) = omega arith in rw h
