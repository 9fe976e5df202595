-- How many nodes the mapping sees. Assumes nothing.
use Rattle.std.specs.Prelude.{ℕ, suc, ◌+◌}
use Rattle.cel_policy.specs.Mapping.{Node, leaf, branch, Nodes, childless, ◌▹◌∶◌}

module _ {A : Type 0} where
  abbrev mutual
    -- how many nodes there are
    pub size : Node A → ℕ
    size (leaf n a) = 1
    size (branch n c name ns) = suc (sizes ns)

    pub sizes : Nodes A → ℕ
    sizes childless = 0
    sizes (ns ▹ k ∶ n) = sizes ns + size n
