-- Arrays of strings: their elements are rows that follow one another, and the first that is no string refuses. Assumes nothing.
use mathlib.Core.Path.{◌≡◌, refl, sym, ap, subst, ◌∙◌}
use Prim.Native.Nat.{ℕ, zero, suc, ◌+◌, ◌-◌, ◌≤◌, ◌<◌}
use native.Mathlib.Nat.{add-zero}
use native.Mathlib.Omega.{arith}
use mathlib.Core.List.{List, [], ◌∷◌, ◌++◌}
use lib.Seq.{slice}
use borrow.Author.Tests.{eqb-false}
use Rattle.std.specs.Prelude.{Ok, Err}
use Rattle.cel_text.specs.Byte.{Text}
use Rattle.cel_text.specs.Tree.{array, object, function}
use Rattle.cel_text.specs.Table.{Words, kind_number, string_kind, word, row_at}
use Rattle.cel_policy.specs.Policy.{Span}
use Rattle.cel_policy.specs.Mapping.{Node, leaf, branch, Nodes, childless, ◌▹◌∶◌, Refusal, good, bad, unexpected_type, element, elements, string_array}
use Rattle.cel_policy.specs.Sizes.{sizes}
use Rattle.parser.specs.Rows.{row_told}
use Rattle.parser.specs.declared.row.Row.{Row}
use Rattle.ast_mapping.specs.View.{RowRead, span_of, spans_from, strings_of, node_at, number, children, Stands, Held, Tabled}
use Rattle.ast_mapping.specs.declared.tree.TreeNode.{TreeNode}
use Rattle.ast_mapping.specs.declared.mapping.Refusal.{Refusal as Told}
use Rattle.ast_mapping.specs.Steps.{refusal_told, kind_refused, ListChecked}
use Rattle.ast_mapping.proofs.View.{row_read, no-string, Begins, all, less, begins-none, Child, next-child, last-child, tabled, tabled-row, tabled-small}
use Rattle.ast_mapping.proofs.Parts.{refuses}

spans-more : (w : Words) (k n : ℕ) → spans_from w n k ++ (span_of w (n + k) ∷ []) ≡ spans_from w n (suc k)
spans-more w zero n = rw add-zero
spans-more w (suc k) n = ap (λ (l : List Span). span_of w n ∷ l) (ap (λ (i : ℕ). spans_from w (suc n) k ++ (span_of w i ∷ [])) (omega arith) ∙ spans-more w k (suc n))

-- k rows from row a on, and one more
module _ (a k : ℕ) where
  rows-less : {end : ℕ} → a + suc k ≤ end → a + k ≤ end
  rows-less h = omega arith

  rows_more : {i : ℕ} → i < a + k → i < a + suc k
  rows_more h = omega arith

  row_last : {end : ℕ} → a + suc k ≤ end → a + k < end
  row_last h = omega arith

  row-between : (a ≤ a + k) × (a + k < a + suc k)
  row-between = (omega arith, omega arith)

  row-counted : {m : ℕ} → m ≡ k → (a + k ≡ a + m) × (m + 1 ≡ suc k)
  row-counted e = (omega arith, omega arith)

module _ (w : Words) (x : Text) where
  string-node : (m : Node Span) → Stands m w x → word w (number m) 0 ≡ string_kind → m ≡ leaf (number m) (span_of w (number m))
  string-node (leaf n a) h e = ap (leaf n) h.1
  string-node (branch n c name ns) h e = absurd (eqb-false (kind_number c) string_kind (no-string c) (sym h.0.kind ∙ e))

  -- a row of the kind of a string is a string's
  string-at : (n : ℕ) → Held w x n → word w n 0 ≡ string_kind → node_at w x n ≡ leaf n (span_of w n)
  string-at n h =
      subst (λ (i : ℕ). word w i 0 ≡ string_kind → node_at w x n ≡ leaf i (span_of w i)) h.numbered (string-node (node_at w x n) h.stands)

  module _ (name : ℕ) where
    other-element : (m : Node Span) → Stands m w x → (word w (number m) 0 ≡ string_kind → ⊥) → element name m ≡ unexpected_type name string_kind (number m)
    unfolding element
    other-element (leaf n a) h k = absurd (k h.0.kind)
    other-element (branch n c bytes ns) h k = refl

    other_at : (n : ℕ) → Held w x n → (word w n 0 ≡ string_kind → ⊥) → element name (node_at w x n) ≡ unexpected_type name string_kind n
    other_at n h =
        subst (λ (i : ℕ). (word w i 0 ≡ string_kind → ⊥) → element name (node_at w x n) ≡ unexpected_type name string_kind i) h.numbered
        (other-element (node_at w x n) h.stands)

    -- a refusal of some first elements is that of all
    elements-refuse : {ns b : Nodes Span} {r : Refusal} → Begins ns b → elements name b ≡ bad r → elements name ns ≡ bad r
    unfolding elements
    elements-refuse all e = e
    elements-refuse (less s) e = elements-refuse s (rw e)

    array-node : (m : Node Span) → Stands m w x → word w (number m) 0 ≡ kind_number array → string_array name m ≡ elements name (children m)
    unfolding string_array
    array-node (leaf n a) h e = absurd (eqb-false (kind_number array) string_kind refl (sym e ∙ h.0.kind))
    array-node (branch n array bytes ns) h e = refl
    array-node (branch n object bytes ns) h e = absurd (eqb-false (kind_number array) (kind_number object) refl (sym e ∙ h.0.kind))
    array-node (branch n function bytes ns) h e = absurd (eqb-false (kind_number array) (kind_number function) refl (sym e ∙ h.0.kind))

    no-array : (m : Node Span) → Stands m w x → (word w (number m) 0 ≡ kind_number array → ⊥) → unexpected_type name (kind_number array) (number m) ≡ string_array name m
    unfolding string_array
    no-array (leaf n a) h k = refl
    no-array (branch n array bytes ns) h k = absurd (k h.0.kind)
    no-array (branch n object bytes ns) h k = refl
    no-array (branch n function bytes ns) h k = refl

    module _ (n : ℕ) (h : Held w x n) where
      wrong-array : (word w n 0 ≡ kind_number array → ⊥) → unexpected_type name (kind_number array) n ≡ string_array name (node_at w x n)
      wrong-array =
          subst (λ (i : ℕ). (word w i 0 ≡ kind_number array → ⊥) → unexpected_type name (kind_number array) i ≡ string_array name (node_at w x n)) h.numbered
          (no-array (node_at w x n) h.stands)

      right-array : word w n 0 ≡ kind_number array → string_array name (node_at w x n) ≡ elements name (children (node_at w x n))
      right-array =
          subst (λ (i : ℕ). word w i 0 ≡ kind_number array → string_array name (node_at w x n) ≡ elements name (children (node_at w x n))) h.numbered
          (array-node (node_at w x n) h.stands)

      -- k elements, all of them strings
      record Strings (k : ℕ) : Type 0 where
        before : Nodes Span
        begins : Begins (children (node_at w x n)) before
        count : sizes before ≡ k
        are : elements name before ≡ good (spans_from w (suc n) k)

      passed-strings : (k : ℕ) → suc n + k ≤ word w n 7 → ((i : ℕ) → suc n ≤ i → i < suc n + k → word w i 0 ≡ string_kind) → Strings k
      unfolding elements element
      passed-strings zero l k = record { before = childless; begins = begins-none (children (node_at w x n)); count = refl; are = refl }
      passed-strings (suc k) l all-strings =
          let s : Strings k = passed-strings k (rows-less (suc n) k l) (λ i a b. all-strings i a (rows_more (suc n) k b)) in
          let c : Child w x n h s.before (suc n + k) = next-child w x n h s.begins (row-counted (suc n) k s.count).0 (row_last (suc n) k l) in
          let here : node_at w x (suc n + k) ≡ leaf (suc n + k) (span_of w (suc n + k)) = string-at (suc n + k) c.is (all-strings (suc n + k) (row-between (suc n) k).0 (row-between (suc n) k).1) in
          record {
            before = s.before ▹ slice (word w (suc n + k) 3) (word w (suc n + k) 4) x ∶ node_at w x (suc n + k);
            begins = c.begins;
            count = rw here (row-counted (suc n) k s.count).1;
            are = rw (here, s.are) (ap good (spans-more w k (suc n)));
          }

      -- all elements from the first up to number `next` are strings
      module _ (kind : word w n 0 ≡ kind_number array) (next : ℕ) (first : suc n ≤ next) (are : (i : ℕ) → suc n ≤ i → i < next → word w i 0 ≡ string_kind) where
        passed : next ≤ word w n 7 → Strings (next - suc n)
        passed l = passed-strings (next - suc n) (omega arith) (λ i a b. are i a (omega arith))

        -- and there are no more
        strings-are : next ≡ word w n 7 → good (strings_of w n) ≡ string_array name (node_at w x n)
        strings-are e =
            let s : Strings (next - suc n) = passed (omega arith) in
            let place : next ≡ suc n + sizes s.before = omega (arith, s.count) in
            let every : s.before ≡ children (node_at w x n) = last-child w x n h s.begins place (omega arith) in
            ap (λ (end : ℕ). good (spans_from w (suc n) (end - suc n))) (sym e) ∙ sym s.are ∙ ap (elements name) every ∙ sym (right-array kind)

        -- and the next is none
        no-string-at : next < word w n 7 → (word w next 0 ≡ string_kind → ⊥) → unexpected_type name string_kind next ≡ string_array name (node_at w x n)
        unfolding elements
        no-string-at l d =
            let s : Strings (next - suc n) = passed (omega arith) in
            let c : Child w x n h s.before next = next-child w x n h s.begins (omega (arith, s.count)) l in
            sym (right-array kind ∙ elements-refuse c.begins (rw (s.are, other_at next c.is d)))

-- ---- an array of strings that is validated, whose row was read

module _ (e : TreeNode) (name : ℕ) {row : Row} (k : RowRead e.table.now e.number.0 row) where
  list_tabled : Tabled e.table.now e.number.0
  list_tabled = tabled e.table.now e.text.now e.number.0 e.held

  pub no-list : {r : Told} → (row.kind ≡ kind_number array → ⊥) → refusal_told r ≡ kind_refused name (kind_number array) e.number.0 → ListChecked e name (Err r)
  no-list h t =
      refuses t (wrong-array e.table.now e.text.now name e.number.0 e.held (λ f. h (k.kind ∙ f)))
      (tabled-small list_tabled e.number.0 list_tabled.begun)

  module _ (h : row.kind ≡ kind_number array) (next : ℕ) (first : e.number.0 + 1 ≤ next) (are : (i : ℕ) → e.number.0 + 1 ≤ i → i < next → word e.table.now i 0 ≡ string_kind) where
    of-array : word e.table.now e.number.0 0 ≡ kind_number array
    of-array = sym k.kind ∙ h

    pub all-strings : row.past.0 ≤ next → (e.number.0 + 1 ≤ row.past.0 → next ≤ row.past.0) → ListChecked e name (Ok tt)
    all-strings l m =
        let end : next ≤ row.past.0 = m (omega (arith, k.past, list_tabled.begun)) in
        record {
          is = strings-are e.table.now e.text.now name e.number.0 e.held of-array next (omega arith) (λ i a b. are i (omega arith) b) (omega (arith, k.past));
          inside = tt;
        }

    -- the next element
    module _ (more : next < row.past.0) {element : Row} (r : row_told element ≡ row_at e.table.now next) where
      element-read : RowRead e.table.now next element
      element-read = row_read r (tabled-row list_tabled next (omega (arith, k.past)))

      pub no-string-there : {t : Told} → (element.kind ≡ string_kind → ⊥) → refusal_told t ≡ kind_refused name string_kind next → ListChecked e name (Err t)
      no-string-there f t =
          refuses t
          (no-string-at e.table.now e.text.now name e.number.0 e.held of-array next (omega arith) (λ i l m. are i (omega arith) m) (omega (arith, k.past))
          (λ g. f (element-read.kind ∙ g)))
          (tabled-small list_tabled next (omega (arith, k.past)))
