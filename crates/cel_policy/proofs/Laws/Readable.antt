-- What is read is proper: a policy that was read from a text has a right shape, and its spans lie in the text and hold string bytes. The spans come
-- from the grammar, through soundness; the shape from the count of nodes. S is the set of string bytes. Assumes nothing.
use Rattle.std.specs.Prelude.{◌≡◌, refl, ℕ, suc, ◌+◌, ◌≤◌, Bool, List, [], ◌∷◌, ◌++◌, map, length}
use Rattle.std.proofs.Common.{sym, ap, ◌∙◌, arith, length-append}
use Rattle.std.proofs.lemmas.List.{length-map}
use Rattle.std.proofs.Math.Seq.{slice}
use Rattle.cel_text.specs.Byte.{Text, ◌⧺◌, Run, Blanks, quote}
use Rattle.cel_text.specs.Tree.{Kind, opener, closer, Key, Tree, string, container, Trees, ◌▸◌∶◌, nodes_all}
use Rattle.cel_text.specs.Grammar.{Value, a_string, a_container, no_child, one_more}
use Rattle.cel_text.specs.Reading.{accepted, read, limits}
use Rattle.cel_text.proofs.Laws.Sound.{sound, within}
use Rattle.cel_policy.specs.Policy.{Span, Policy, all_strings, over_strings, content, strings}
use Rattle.cel_policy.specs.Mapping.{Node, leaf, branch, Nodes, childless, ◌▹◌∶◌, key_bytes, node_of, nodes_of, good, mapping}
use Rattle.cel_policy.specs.Printed.{Each, nothing, each, Proper}
use Rattle.cel_policy.proofs.Laws.Each.{each_map}
use Rattle.cel_policy.proofs.Laws.Natural.{over_node, over_nodes, unmap, all_strings-over, mapping-natural}
use Rattle.cel_policy.proofs.Laws.Places.{Here, here-left, here-right, here-next, here-inside, here-slice}
use Rattle.cel_policy.proofs.Laws.Shape.{Shape, shape-right}
use Rattle.cel_policy.proofs.Laws.Counts.{size-node_of, meets-mapping}

-- a span that print accepts: it fits, and its bytes are string bytes
pub record Fits (S : ℕ → Bool) (x : Text) (s : Span) : Type 0 where
  pub ordered : s.from ≤ s.to
  pub inside : s.to ≤ length x
  pub string_bytes : Run S (content x s)

module _ (S : ℕ → Bool) (x : Text) where
  -- a span with a proof that it fits
  abbrev FitSpan : Type 0
  FitSpan = (s : Span) × Fits S x s

  abbrev span : FitSpan → Span
  span s = s.0

  -- the strings of a value fit, by induction on how the grammar makes it
  abbrev FitValue : ℕ → Text → Tree → Type 0
  FitValue p v t = Here x p v → (n : ℕ) → (g : Node FitSpan) × (over_node span g ≡ node_of x t n)

  abbrev FitChildren : ℕ → Text → Trees → Type 0
  FitChildren p vs ts = Here x p vs → (n : ℕ) → (g : Nodes FitSpan) × (over_nodes span g ≡ nodes_of x ts n)

  fit-string : (p : ℕ) {b i c : Text} → Blanks b → Run S i → Blanks c
      → FitValue p (b ⧺ (quote ∷ i) ⧺ c ⧺ quote ∷ []) (string (p + length b) (suc (p + length b) + length i) (suc (suc (p + length b) + length i + length c)))
  fit-string p {b} {i} {c} bs is cs h n =
      let o : ℕ = p + length b in
      let s : Span = record { from = suc o; to = suc o + length i } in
      let here : Here x (suc o) (i ++ (c ⧺ quote ∷ [])) = here-next (i ++ (c ⧺ quote ∷ [])) (here-right b ((quote ∷ i) ⧺ c ⧺ quote ∷ []) h) in
      let fits : Fits S x s =
      record {
        ordered = omega arith;
        inside = here-inside i (c ⧺ quote ∷ []) here (simp length-append (omega arith));
        string_bytes = rw (here-slice i (here-left i (c ⧺ quote ∷ []) here)) is;
      } in
      (leaf n (s, fits), refl)

  fit-container : (p : ℕ) (c : Kind) (h v b : Text) (from to : ℕ) (ts : Trees) → FitChildren (suc (p + length h)) v ts
      → FitValue p (h ⧺ (opener c ∷ v) ⧺ b ⧺ closer c ∷ []) (container c (p + length h) from to (suc (suc (p + length h) + length v + length b)) ts)
  fit-container p c h v b from to ts fit here n =
      let inner : Here x (suc (p + length h)) (v ++ (b ⧺ closer c ∷ []))
      = here-next (v ++ (b ⧺ closer c ∷ [])) (here-right h ((opener c ∷ v) ⧺ b ⧺ closer c ∷ []) here) in
      let g = fit (here-left v (b ⧺ closer c ∷ []) inner) (suc n) in
      (branch n c (slice from to x) g.0, ap (branch n c (slice from to x)) g.1)

  fit-more : (p : ℕ) (vs s l v : Text) (ts : Trees) (k : Key) (t : Tree)
      → FitChildren p vs ts → FitValue (p + length vs + length s + length l) v t → FitChildren p (vs ⧺ s ⧺ l ⧺ v) (ts ▸ k ∶ t)
  fit-more p vs s l v ts k t fit fits here n =
      let g = fit (here-left vs (s ⧺ l ⧺ v) here) n in
      let d = fits (here-right l v (here-right s (l ⧺ v) (here-right vs (s ⧺ l ⧺ v) here))) (n + nodes_all ts) in
      (g.0 ▹ key_bytes x k ∶ d.0, cc (g.1, d.1))

  fit-value : {p : ℕ} {v : Text} {t : Tree} → Value S p v t → FitValue p v t
  fit-value d =
      elim d as (λ p v t d. FitValue p v t) (λ c p vs ts d. FitChildren p vs ts) [
        | a_string {p = p} bs is cs ↦ fit-string p bs is cs
        | a_container {p = p} {c = c} {h = h} {v = v} {b = b} {from = from} {to = to} {ts = ts} hd (ch → ih) bs ↦ fit-container p c h v b from to ts ih
        | no_child ↦ (λ here n. (childless, refl))
        | one_more {p = p} {vs = vs} {s = s} {l = l} {v = v} {ts = ts} {k = k} {t = t} (ch → h) sep lab (val → ih) ↦ fit-more p vs s l v ts k t h ih
      ]

  fit-spans : (l : List FitSpan) → Each (Fits S x) (map span l)
  fit-spans [] = nothing
  fit-spans (s ∷ l) = each s.1 (fit-spans l)

  -- a policy that was read: of a right shape, its strings where they should be
  pub record Readable (p : Policy Span) : Type 0 where
    pub shape : Shape p
    pub fits : Each (Fits S x) (all_strings p)

  pub readable : (t : Tree) (q : ℕ) (p : Policy Span) → read S limits x ≡ accepted t q → mapping (node_of x t 0) ≡ good p → Readable p
  readable t q p e m =
      let r = sound S limits x t q e in
      let g = fit-value r.reads (record { rest = r.rest; cut = r.split }) 0 in
      let u = unmap (over_strings span) (mapping g.0) p (sym (mapping-natural span g.0) ∙ ap mapping g.1 ∙ m) in
      record {
        shape = (rw m at (meets-mapping (node_of x t 0))) (rw (size-node_of x t 0) (within S x t q e).1);
        fits = rw (sym u.2, all_strings-over span u.0) (fit-spans (all_strings u.0));
      }

  -- it is printable but for its length
  pub readable-proper : {p : Policy Span} → Readable p → Proper S (strings x p)
  readable-proper {p} r =
      record {
        shape = simp length-map (shape-right r.shape);
        string_bytes = rw (all_strings-over (content x) p) (each_map (content x) (all_strings p) (λ s f. f.string_bytes) r.fits);
      }
