-- What a text means: the policy as which it is read. “Reading a policy is reading the tree and then mapping it.” S is the set of string bytes. Assumes nothing.
use Rattle.std.specs.Prelude.{◌≡◌, ℕ, Bool}
use Rattle.cel_text.specs.Byte.{Text}
use Rattle.cel_text.specs.Tree.{Tree, nodes, depth}
use Rattle.cel_text.specs.Reading.{accepted, read, limits}
use Rattle.cel_policy.specs.Policy.{Span, Policy, strings}
use Rattle.cel_policy.specs.Mapping.{good, node_of, mapping}

-- the text x is read as the policy p: its first q bytes are a tree with n nodes and depth d
pub record ReadAs (S : ℕ → Bool) (x : Text) (p : Policy Text) (q n d : ℕ) : Type 0 where
  pub tree : Tree
  pub places : Policy Span
  pub reads : read S limits x ≡ accepted tree q
  pub maps : mapping (node_of x tree 0) ≡ good places
  pub same : strings x places ≡ p
  pub has_nodes : nodes tree ≡ n
  pub has_depth : depth tree ≡ d
