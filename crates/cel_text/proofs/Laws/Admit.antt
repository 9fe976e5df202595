-- Which trees any limits admit, and that those of SPEC.md admit a tree exactly if its depth is at most 32 and its nodes at most 256. Assumes nothing.
use Rattle.std.specs.Prelude.{◌≡◌, refl, ℕ, suc, ◌+◌, ◌≤◌, false}
use Rattle.std.proofs.Common.{arith, ne_eqb}
use Rattle.std.proofs.lemmas.Bool.{eqb-false}
use Rattle.cel_text.specs.Tree.{Tree, string, container, Trees, ∅, ◌▸◌∶◌, nodes, nodes_all, depth, depth_all}
use Rattle.cel_text.specs.Reading.{Limits, limits, unlimited, max_depth, max_nodes}

module _ (L : Limits) where
  abbrev mutual
    -- the value t may open where d containers are open and n nodes have opened
    pub Admits : Tree → (d n : ℕ) → Type 0
    Admits (string o to q) d n = L.many n ≡ false
    Admits (container c o from to q ts) d n = (L.deep (suc d) ≡ false) × (L.many n ≡ false) × AdmitsAll ts (suc d) (suc n)

    pub AdmitsAll : Trees → (d n : ℕ) → Type 0
    AdmitsAll ∅ d n = Unit
    AdmitsAll (ts ▸ k ∶ t) d n = AdmitsAll ts d n × Admits t d (n + nodes_all ts)

mutual
  pub unlimited-admits : (t : Tree) (d n : ℕ) → Admits unlimited t d n
  unlimited-admits (string o to q) d n = refl
  unlimited-admits (container c o from to q ts) d n = (refl, refl, unlimited-admits-all ts (suc d) (suc n))

  unlimited-admits-all : (ts : Trees) (d n : ℕ) → AdmitsAll unlimited ts d n
  unlimited-admits-all ∅ d n = tt
  unlimited-admits-all (ts ▸ k ∶ t) d n = (unlimited-admits-all ts d n, unlimited-admits t d (n + nodes_all ts))

mutual
  pub fits-admits : (t : Tree) (d n : ℕ) → d + depth t ≤ max_depth → n + nodes t ≤ max_nodes → Admits limits t d n
  fits-admits (string o to q) d n hd hn = ne_eqb n max_nodes (omega arith)
  fits-admits (container c o from to q ts) d n hd hn =
      (ne_eqb (suc d) (suc max_depth) (omega arith), ne_eqb n max_nodes (omega arith), fits-admits-all ts (suc d) (suc n) (omega arith) (omega arith))

  fits-admits-all : (ts : Trees) (d n : ℕ) → d + depth_all ts ≤ max_depth → n + nodes_all ts ≤ max_nodes → AdmitsAll limits ts d n
  fits-admits-all ∅ d n hd hn = tt
  fits-admits-all (ts ▸ k ∶ t) d n hd hn =
      (fits-admits-all ts d n (omega arith) (omega arith), fits-admits t d (n + nodes_all ts) (omega arith) (omega arith))

mutual
  pub admits-fits : (t : Tree) (d n : ℕ) → d ≤ max_depth → n ≤ max_nodes → Admits limits t d n → (d + depth t ≤ max_depth) × (n + nodes t ≤ max_nodes)
  admits-fits (string o to q) d n hd hn a = let ne : n ≡ max_nodes → ⊥ = eqb-false n max_nodes a in omega arith
  admits-fits (container c o from to q ts) d n hd hn a =
      let ne : n ≡ max_nodes → ⊥ = eqb-false n max_nodes a.1 in
      let nd : suc d ≡ suc max_depth → ⊥ = eqb-false (suc d) (suc max_depth) a.0 in
      let h = admits-fits-all ts (suc d) (suc n) (omega arith) (omega arith) a.2 in
      omega arith

  admits-fits-all : (ts : Trees) (d n : ℕ) → d ≤ max_depth → n ≤ max_nodes → AdmitsAll limits ts d n → (d + depth_all ts ≤ max_depth) × (n + nodes_all ts ≤ max_nodes)
  admits-fits-all ∅ d n hd hn a = omega arith
  admits-fits-all (ts ▸ k ∶ t) d n hd hn a =
      let h = admits-fits-all ts d n hd hn a.0 in
      let h' = admits-fits t d (n + nodes_all ts) hd h.1 a.1 in
      omega arith
