-- What a table that has the rows of a node says of it: its children stand one after the other, each read back at its number. Assumes nothing.
use mathlib.Core.Path.{◌≡◌, refl, sym, ap, ◌∙◌, subst}
use Prim.Native.Nat.{ℕ, zero, suc, ◌+◌, ◌*◌, ◌≤◌, ◌<◌}
use native.Mathlib.Nat.{add-zero}
use native.Mathlib.Omega.{arith}
use mathlib.Core.Bool.{false}
use lib.ListN.{length}
use lib.Seq.{slice}
use lib.Dec.{eqb}
use borrow.Author.Tests.{lt-ltb, le-ltb}
use Rattle.cel_text.specs.Byte.{Text}
use Rattle.cel_text.specs.Tree.{Kind, array, object, function}
use Rattle.cel_text.specs.Reading.{max_nodes}
use Rattle.cel_text.specs.Table.{Words, Row, row_words, string_kind, kind_number, word, words_at, row_at}
use Rattle.cel_text.proofs.Laws.Table.{row_inside}
use Rattle.cel_policy.specs.Policy.{Span}
use Rattle.cel_policy.specs.Mapping.{Node, leaf, branch, Nodes, childless, ◌▹◌∶◌}
use Rattle.cel_policy.specs.Sizes.{size, sizes}
use Rattle.cel_policy.proofs.Laws.Counts.{size-positive}
use Rattle.parser.specs.Kinds.{kind_of}
use Rattle.parser.specs.Rows.{row_told}
use Rattle.parser.specs.declared.row.Row.{Row as Told-row}
use Rattle.ast_mapping.specs.View.{RowRead, node_from, nodes_from, node_at, number, children, Part, Stands, StandAll, Held, Tabled}

pub size-children : (m : Node Span) → size m ≡ suc (sizes (children m))
size-children (leaf n a) = refl
size-children (branch n c name ns) = refl

-- ---- a row that was read

pub row_read : {w : Words} {n : ℕ} {r : Told-row} → row_told r ≡ row_at w n → row_words * suc n ≤ length w → RowRead w n r
row_read {w} {n} {r} e h =
    let k : row_told r ≡ words_at w n = e ∙ row_inside w n h in
    record {
      kind = ap (λ (t : Row). t.kind) k;
      from = ap (λ (t : Row). t.from) k;
      to = ap (λ (t : Row). t.to) k;
      keyfrom = ap (λ (t : Row). t.keyfrom) k;
      keyto = ap (λ (t : Row). t.keyto) k;
      past = ap (λ (t : Row). t.past) k;
    }

-- ---- beginnings of some children

pub data Begins (ns : Nodes Span) : Nodes Span → Type 0 where
  all : Begins ns ns
  less : {b : Nodes Span} {k : Text} {m : Node Span} → Begins ns (b ▹ k ∶ m) → Begins ns b

begins-more : {ns b : Nodes Span} (k : Text) (m : Node Span) → Begins ns b → Begins (ns ▹ k ∶ m) b
begins-more k m all = less all
begins-more k m (less s) = less (begins-more k m s)

pub begins-none : (ns : Nodes Span) → Begins ns childless
begins-none childless = all
begins-none (ns ▹ k ∶ m) = begins-more k m (begins-none ns)

begins-sizes : {ns b : Nodes Span} → Begins ns b → sizes b ≤ sizes ns
begins-sizes {ns} all = omega arith
begins-sizes {ns} {b} (less {k = k} {m = m} s) = omega (arith, begins-sizes s)

pub begins-all : {ns b : Nodes Span} → Begins ns b → sizes ns ≤ sizes b → b ≡ ns
begins-all all h = refl
begins-all {ns} {b} (less {k = k} {m = m} s) h = absurd (omega (arith, begins-sizes s, size-positive m))

pub no-string : (c : Kind) → eqb (kind_number c) string_kind ≡ false
no-string array = refl
no-string object = refl
no-string function = refl

kind_of-number : (c : Kind) → kind_of (kind_number c) ≡ c
kind_of-number array = refl
kind_of-number object = refl
kind_of-number function = refl

module _ (w : Words) (x : Text) where
  stand-begin : {ns b : Nodes Span} (n : ℕ) → Begins ns b → StandAll ns w x n → StandAll b w x n
  stand-begin n all h = h
  stand-begin n (less s) h = (stand-begin n s h).0

  -- the first node after its subtree
  stands-past : (m : Node Span) → Stands m w x → (word w (number m) 7 ≡ number m + size m) × (row_words * (number m + size m) ≤ length w)
  stands-past (leaf n a) h = (h.0.past ∙ omega arith, omega (arith, h.0.within))
  stands-past (branch n c name ns) h = (h.0.past ∙ omega arith, omega (arith, h.0.within))

  stands-children : (m : Node Span) → Stands m w x → StandAll (children m) w x (suc (number m))
  stands-children (leaf n a) h = tt
  stands-children (branch n c name ns) h = h.2

  -- ---- a node that stands is read back

  mutual
    decode : (f : ℕ) (m : Node Span) → Stands m w x → 2 * size m ≤ suc f → node_from f w x (number m) ≡ m
    decode zero (leaf n a) h l = ap (leaf n) (sym h.1)
    decode zero (branch n c name ns) h l = absurd (omega arith)
    decode (suc f) (leaf n a) h l = rw h.0.kind (ap (leaf n) (sym h.1))
    decode (suc f) (branch n c name ns) h l =
        let kids : nodes_from f w x (suc n) (suc n + sizes ns) childless ≡ ns
        = rw (add-zero (suc n)) at (decode_all f ns childless (begins-none ns) (suc n) h.2 (omega arith)) in
        rw (h.0.kind, no-string c, kind_of-number c, h.1.is, h.0.past, kids)

    decode_all : (f : ℕ) (ns b : Nodes Span) → Begins ns b → (n : ℕ) → StandAll ns w x n → 2 * sizes ns ≤ f + 2 * sizes b
        → nodes_from f w x (n + sizes b) (n + sizes ns) b ≡ ns
    decode_all zero ns b s n h l = begins-all s (omega arith)
    decode_all (suc f) ns b all n h l = rw (le-ltb (n + sizes ns) (n + sizes ns) (omega arith))
    decode_all (suc f) ns b (less {k = k} {m = m} s) n h l =
        let st : StandAll (b ▹ k ∶ m) w x n = stand-begin n s h in
        let more : n + sizes b < n + sizes ns = omega (arith, begins-sizes s, size-positive m) in
        let past : word w (number m) 7 ≡ n + (sizes b + size m) = (stands-past m st.3).0 ∙ omega (arith, st.1) in
        rw (lt-ltb (n + sizes b) (n + sizes ns) more, sym st.1, past, st.2.is, decode f m st.3 (omega (arith, begins-sizes s)))
        (decode_all f ns (b ▹ k ∶ m) s n h (omega (arith, size-positive m)))

  pub read_back : (m : Node Span) → Stands m w x → size m ≤ max_nodes → node_at w x (number m) ≡ m
  unfolding node_at
  read_back m h l = decode (2 * max_nodes) m h (omega arith)

  pub held : (m : Node Span) → Stands m w x → number m + size m ≤ max_nodes → Held w x (number m)
  held m h l =
      let e : node_at w x (number m) ≡ m = read_back m h (omega arith) in
      record { numbered = ap number e; small = rw e l; stands = rw e h }

  -- ---- the children of a node in the table

  module _ (n : ℕ) (h : Held w x n) where
    pub past : word w n 7 ≡ n + size (node_at w x n)
    past = ap (λ (k : ℕ). word w k 7) (sym h.numbered) ∙ (stands-past (node_at w x n) h.stands).0 ∙ ap (λ (k : ℕ). k + size (node_at w x n)) h.numbered

    pub within : row_words * (n + size (node_at w x n)) ≤ length w
    within = omega (arith, (stands-past (node_at w x n) h.stands).1, h.numbered)

    pub room : row_words * suc n ≤ length w
    room = omega (arith, within, size-positive (node_at w x n))

    pub few : n < max_nodes
    few = omega (arith, size-positive (node_at w x n), h.small)

    pub later : n < word w n 7
    later = omega (arith, past, size-positive (node_at w x n))

    stand : StandAll (children (node_at w x n)) w x (suc n)
    stand = subst (λ (k : ℕ). StandAll (children (node_at w x n)) w x (suc k)) h.numbered (stands-children (node_at w x n) h.stands)

    -- the child with number `next`, where b are the children before it
    pub record Child (b : Nodes Span) (next : ℕ) : Type 0 where
      pub begins : Begins (children (node_at w x n)) (b ▹ slice (word w next 3) (word w next 4) x ∶ node_at w x next)
      pub ordered : word w next 3 ≤ word w next 4
      pub inside : word w next 4 ≤ length x
      pub is : Held w x next
      pub fits : word w next 7 ≤ word w n 7

    child : (b : Nodes Span) (next : ℕ) {k : Text} {m : Node Span} → next ≡ suc n + sizes b → Begins (children (node_at w x n)) (b ▹ k ∶ m) → Child b next
    child b next {k} {m} e s =
        let st : StandAll (b ▹ k ∶ m) w x (suc n) = stand-begin (suc n) s stand in
        let le : sizes b + size m ≤ sizes (children (node_at w x n)) = begins-sizes s in
        let here : number m ≡ next = st.1 ∙ sym e in
        let small : number m + size m ≤ max_nodes = omega (arith, le, size-children (node_at w x n), h.small) in
        let back : node_at w x next ≡ m = ap (node_at w x) (sym here) ∙ read_back m st.3 (omega arith) in
        let end : word w next 7 ≡ number m + size m = ap (λ (i : ℕ). word w i 7) (sym here) ∙ (stands-past m st.3).0 in
        let part : Part x (word w next 3) (word w next 4) k = rw here at st.2 in
        record {
          begins = rw (back, part.is) s;
          ordered = part.ordered;
          inside = part.inside;
          is = rw here at (held m st.3 small);
          fits = omega (arith, le, size-children (node_at w x n), end, past, e, here);
        }

    pub next-child : {b : Nodes Span} {next : ℕ} → Begins (children (node_at w x n)) b → next ≡ suc n + sizes b → next < word w n 7 → Child b next
    next-child {b} {next} all e l = absurd (omega (arith, past, size-children (node_at w x n)))
    next-child {b} {next} (less {k = k} {m = m} s) e l = child b next e s

    -- where the children end
    pub last-child : {b : Nodes Span} {next : ℕ} → Begins (children (node_at w x n)) b → next ≡ suc n + sizes b → word w n 7 ≤ next → b ≡ children (node_at w x n)
    last-child {b} {next} s e l = begins-all s (omega (arith, past, size-children (node_at w x n)))

pub tabled : (w : Words) (x : Text) (n : ℕ) → Held w x n → Tabled w n
tabled w x n h = record { begun = later w x n h; few = omega (arith, past w x n h, h.small); ended = omega (arith, past w x n h, within w x n h) }

pub tabled-row : {w : Words} {n : ℕ} → Tabled w n → (i : ℕ) → i < word w n 7 → row_words * suc i ≤ length w
tabled-row t i h = omega (arith, t.ended)

pub tabled-small : {w : Words} {n : ℕ} → Tabled w n → (i : ℕ) → i < word w n 7 → i < max_nodes
tabled-small t i h = omega (arith, t.few)
