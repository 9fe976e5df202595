-- The tree which the text of a tree without places stands for: it is a value of the grammar, and what the mapping sees of it are the bytes that
-- were written. Assumes nothing.
use Rattle.std.specs.Prelude.{◌≡◌, refl, ℕ, suc, ◌+◌, Bool, [], ◌∷◌, ◌++◌, length}
use Rattle.std.proofs.Common.{sym, ap, add-zero, append-nil}
use Rattle.std.proofs.Math.Seq.{slice}
use Rattle.cel_text.specs.Byte.{Text, over, Identifier, quote, colon}
use Rattle.cel_text.specs.Tree.{Kind, array, object, function, opener, closer, Key, unkeyed, key, Tree, string, container, Trees, ∅, ◌▸◌∶◌, nodes, nodes_all, depth, depth_all, count}
use Rattle.cel_text.specs.Abstract.{Ast, str, con, Asts, ε, ◌▪◌∶◌, label, separator, write, write_all, size_of, size_all, height_of, height_all, count_of, GoodName, GoodKey, Writable, WritableAll}
use Rattle.cel_text.specs.Grammar.{Named, nameless, with_name, Head, array_head, object_head, function_head, Label, in_array, in_function, in_object, Separator, next, Value, a_string, a_container}
use Rattle.cel_text.specs.Grammar.{Children, no_child, one_more}
use Rattle.cel_policy.specs.Policy.{content}
use Rattle.cel_policy.specs.Mapping.{Node, leaf, branch, Nodes, childless, ◌▹◌∶◌, key_bytes, node_of, nodes_of}
use Rattle.cel_policy.proofs.Laws.Natural.{over_node, over_nodes}
use Rattle.cel_policy.proofs.Laws.Places.{Here, here-left, here-right, here-next, here-slice}

-- the ends of a name and of a key that stand at place p
abbrev pub name_from : Kind → (p : ℕ) → ℕ
name_from array p = 0
name_from object p = p
name_from function p = p

abbrev pub name_to : Kind → (p : ℕ) → Text → ℕ
name_to array p name = 0
name_to object p name = p + length name
name_to function p name = p + length name

abbrev pub key_at : Kind → (p : ℕ) → Text → Key
key_at array p k = unkeyed
key_at object p k = key p (p + length k)
key_at function p k = unkeyed

abbrev mutual
  -- the tree of what is written at place p
  pub tree_at : Ast → (p : ℕ) → Tree
  tree_at (str i) p = string p (suc p + length i) (suc (suc p + length i))
  tree_at (con c name more) p =
      container c (p + length name) (name_from c p) (name_to c p name) (suc (suc (p + length name) + length (write_all more c)))
      (trees_at more c (suc (p + length name)))

  pub trees_at : Asts → Kind → (p : ℕ) → Trees
  trees_at ε c p = ∅
  trees_at (more ▪ k ∶ a) c p =
      trees_at more c p
      ▸ key_at c (p + length (write_all more c) + length (separator more)) k
      ∶ tree_at a (p + length (write_all more c) + length (separator more) + length (label c k))

abbrev mutual
  -- what the mapping sees of it, strings known by their bytes
  pub seen : Ast → (n : ℕ) → Node Text
  seen (str i) n = leaf n i
  seen (con c name more) n = branch n c name (seen_all more (suc n))

  pub seen_all : Asts → (n : ℕ) → Nodes Text
  seen_all ε n = childless
  seen_all (more ▪ k ∶ a) n = seen_all more n ▹ k ∶ seen a (n + size_all more)

mutual
  pub nodes-tree_at : (a : Ast) (p : ℕ) → nodes (tree_at a p) ≡ size_of a
  nodes-tree_at (str i) p = refl
  nodes-tree_at (con c name more) p = ap suc (nodes-trees_at more c (suc (p + length name)))

  nodes-trees_at : (more : Asts) (c : Kind) (p : ℕ) → nodes_all (trees_at more c p) ≡ size_all more
  nodes-trees_at ε c p = refl
  nodes-trees_at (more ▪ k ∶ a) c p = cc (nodes-trees_at more c p, nodes-tree_at a (p + length (write_all more c) + length (separator more) + length (label c k)))

mutual
  pub depth-tree_at : (a : Ast) (p : ℕ) → depth (tree_at a p) ≡ height_of a
  depth-tree_at (str i) p = refl
  depth-tree_at (con c name more) p = ap suc (depth-trees_at more c (suc (p + length name)))

  depth-trees_at : (more : Asts) (c : Kind) (p : ℕ) → depth_all (trees_at more c p) ≡ height_all more
  depth-trees_at ε c p = refl
  depth-trees_at (more ▪ k ∶ a) c p = cc (depth-trees_at more c p, depth-tree_at a (p + length (write_all more c) + length (separator more) + length (label c k)))

pub count-trees_at : (more : Asts) (c : Kind) (p : ℕ) → count (trees_at more c p) ≡ count_of more
count-trees_at ε c p = refl
count-trees_at (more ▪ k ∶ a) c p = ap suc (count-trees_at more c p)

named : (p : ℕ) (name : Text) → Identifier name → Named p name p (p + length name)
named p [] r = let d : Named p [] (p + 0) (p + 0) = nameless over in simp add-zero (simp add-zero at d)
named p (i ∷ more) r =
    let d : Named p ((i ∷ more) ++ []) (p + 0) (p + 0 + length (i ∷ more)) = with_name over r over in
    simp (add-zero, append-nil) at d

head_at : (c : Kind) (p : ℕ) (name : Text) → GoodName c name → Head c p name (name_from c p) (name_to c p name)
head_at array p name g = rw g (array_head over)
head_at object p name g = object_head (named p name g)
head_at function p name g = function_head (named p name g)

label_at : (c : Kind) (p : ℕ) (k : Text) → GoodKey c k → Label c p (label c k) (key_at c p k)
label_at array p k g = in_array
label_at object p k g = in_object (named p k g)
label_at function p k g = in_function

separator_at : (more : Asts) (c : Kind) (p : ℕ) → Separator (trees_at more c p) (separator more)
separator_at ε c p = Separator.first
separator_at (more ▪ k ∶ a) c p = next over

module _ (S : ℕ → Bool) where
  mutual
    -- what is written is a value of the grammar
    pub value_written : (a : Ast) (p : ℕ) → Writable S a → Value S p (write a) (tree_at a p)
    value_written (str i) p w =
        let d : Value S p (write (str i)) (string (p + 0) (suc (p + 0) + length i) (suc (suc (p + 0) + length i + 0))) = a_string over w over in
        simp add-zero at d
    value_written (con c name more) p w =
        let d : Value S p (write (con c name more))
        (container c (p + length name) (name_from c p) (name_to c p name) (suc (suc (p + length name) + length (write_all more c) + 0))
        (trees_at more c (suc (p + length name))))
        = a_container (head_at c p name w.0) (children-written more c (suc (p + length name)) w.1) over in
        simp add-zero at d

    children-written : (more : Asts) (c : Kind) (p : ℕ) → WritableAll S more c → Children S c p (write_all more c) (trees_at more c p)
    children-written ε c p w = no_child
    children-written (more ▪ k ∶ a) c p w =
        one_more (children-written more c p w.0) (separator_at more c p)
        (label_at c (p + length (write_all more c) + length (separator more)) k w.1)
        (value_written a (p + length (write_all more c) + length (separator more) + length (label c k)) w.2)

-- the name and the key, read from where they stand
name_read : (c : Kind) (x name : Text) (p : ℕ) → GoodName c name → Here x p name → slice (name_from c p) (name_to c p name) x ≡ name
name_read array x name p g h = sym g
name_read object x name p g h = here-slice name h
name_read function x name p g h = here-slice name h

key_read : (c : Kind) (x k : Text) (p : ℕ) → GoodKey c k → Here x p (label c k) → key_bytes x (key_at c p k) ≡ k
key_read array x k p g h = sym g
key_read object x k p g h = here-slice k (here-left k (colon ∷ []) h)
key_read function x k p g h = sym g

module _ (S : ℕ → Bool) (x : Text) where
  mutual
    -- the mapping sees the bytes that were written
    pub seen-written : (a : Ast) (p n : ℕ) → Writable S a → Here x p (write a) → over_node (content x) (node_of x (tree_at a p) n) ≡ seen a n
    seen-written (str i) p n w h =
        ap (leaf n) (here-slice i (here-left i (quote ∷ []) (here-next (i ++ quote ∷ []) h)))
    seen-written (con c name more) p n w h =
        let inside : Here x (suc (p + length name)) (write_all more c ++ closer c ∷ [])
        = here-next (write_all more c ++ closer c ∷ []) (here-right name (opener c ∷ (write_all more c ++ closer c ∷ [])) h) in
        cc (
          name_read c x name p w.0 (here-left name (opener c ∷ (write_all more c ++ closer c ∷ [])) h),
          seen_all-written more c (suc (p + length name)) (suc n) w.1 (here-left (write_all more c) (closer c ∷ []) inside),
        )

    seen_all-written :
        (more : Asts) (c : Kind) (p n : ℕ)
        → WritableAll S more c → Here x p (write_all more c) → over_nodes (content x) (nodes_of x (trees_at more c p) n) ≡ seen_all more n
    seen_all-written ε c p n w h = refl
    seen_all-written (more ▪ k ∶ a) c p n w h =
        let q : ℕ = p + length (write_all more c) + length (separator more) in
        let entry : Here x q (label c k ++ write a)
        = here-right (separator more) (label c k ++ write a) (here-right (write_all more c) (separator more ++ (label c k ++ write a)) h) in
        cc (
          seen_all-written more c p n w.0 (here-left (write_all more c) (separator more ++ (label c k ++ write a)) h),
          key_read c x k q w.1 (here-left (label c k) (write a) entry),
          seen-written a (q + length (label c k)) (n + nodes_all (trees_at more c p)) w.2 (here-right (label c k) (write a) entry),
          nodes-trees_at more c p,
        )
