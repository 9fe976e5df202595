-- Demand 3 for the definitions: the text of a policy, whatever bytes follow it, is read as that policy, list by list and string by string; so two
-- policies with one text are equal. S is the set of string bytes. Assumes nothing.
use Rattle.std.specs.Prelude.{◌≡◌, refl, ℕ, ◌≤◌, Bool, List, [], ◌++◌, length}
use Rattle.std.proofs.Common.{sym, ap, ◌∙◌, arith, length-append, lit≤}
use Rattle.std.proofs.Math.Option.{Option, none, some}
use Rattle.cel_text.specs.Byte.{Text, Run, Plain}
use Rattle.cel_text.specs.Tree.{Tree}
use Rattle.cel_text.specs.Abstract.{Ast, write, size_of, height_of, Writable}
use Rattle.cel_text.specs.Reading.{max_depth, max_nodes}
use Rattle.cel_text.proofs.Laws.Complete.{complete}
use Rattle.cel_policy.specs.Policy.{Policy, all_strings, content, strings}
use Rattle.cel_policy.specs.Mapping.{good, Request, Only, certified, skipped, node_of, mapping}
use Rattle.cel_policy.specs.Printed.{Each, printed, printed_nodes, printed_depth, Proper}
use Rattle.cel_policy.specs.Meaning.{ReadAs}
use Rattle.cel_policy.proofs.Laws.Natural.{unmap, mapping-natural}
use Rattle.cel_policy.proofs.Laws.Places.{here-all}
use Rattle.cel_policy.proofs.Laws.Written.{tree_at, seen, value_written, seen-written, nodes-tree_at, depth-tree_at}
use Rattle.cel_policy.proofs.Laws.Shape.{Shape, skips, certifies, certified_count, max_of, shape_of}
use Rattle.cel_policy.proofs.Laws.PrintedTree.{skip_value, empty_object, certified_value, printed-skip, printed-certified, size-certified, height-certified, mapping-skip, mapping-certified}
use Rattle.cel_policy.proofs.Laws.PrintedTree.{writable-empty, writable-skip, writable-certified}

-- a text is read as one policy at most
pub read_as-unique : {S : ℕ → Bool} {x : Text} {p p' : Policy Text} {q q' n n' d d' : ℕ} → ReadAs S x p q n d → ReadAs S x p' q' n' d' → p ≡ p'
read_as-unique r r' = cc

-- the counts of the trees of printed texts
nodes-skip : size_of skip_value ≡ printed_nodes skipped
unfolding printed_nodes
nodes-skip = refl

depth-skip : height_of skip_value ≡ printed_depth skipped
unfolding printed_depth
depth-skip = refl

nodes-certified : (r : Option (Request Text)) (l : Only (List Text)) → size_of (certified_value empty_object r l) ≡ printed_nodes (certified r l)
unfolding printed_nodes
nodes-certified none l = size-certified empty_object none l
nodes-certified (some r) l = size-certified empty_object (some r) l ∙ simp length-append (omega arith)

depth-certified : (r : Option (Request Text)) (l : Only (List Text)) → height_of (certified_value empty_object r l) ≡ printed_depth (certified r l)
unfolding printed_depth
depth-certified none l = height-certified empty_object none l (lit≤ tt)
depth-certified (some r) l = height-certified empty_object (some r) l (lit≤ tt)

-- 7 nodes with 249 strings, 9 nodes with 247
nodes-within : (r : Option (Request Text)) (l : Only (List Text)) → certified_count r l ≤ max_of r → size_of (certified_value empty_object r l) ≤ max_nodes
nodes-within none l h = omega (arith, size-certified empty_object none l)
nodes-within (some r) l h = omega (arith, size-certified empty_object (some r) l)

module _ (S : ℕ → Bool) (plain : Plain S) where
  -- a value that is written is read as the policy that the mapping makes of it
  pub written_read :
      (a : Ast) (p : Policy Text) → Writable S a → mapping (seen a 0) ≡ good p → height_of a ≤ max_depth → size_of a ≤ max_nodes → (rest : Text)
      → ReadAs S (write a ++ rest) p (length (write a)) (size_of a) (height_of a)
  written_read a p w m hd hn rest =
      let x : Text = write a ++ rest in
      let t : Tree = tree_at a 0 in
      let u = unmap (strings x) (mapping (node_of x t 0)) p
      (sym (mapping-natural (content x) (node_of x t 0)) ∙ ap mapping (seen-written S x a 0 0 w (here-all (write a) rest)) ∙ m) in
      record {
        tree = t;
        places = u.0;
        reads = complete S plain (value_written S a 0 w) (rw (depth-tree_at a 0) hd) (rw (nodes-tree_at a 0) hn) rest;
        maps = u.1;
        same = u.2;
        has_nodes = nodes-tree_at a 0;
        has_depth = depth-tree_at a 0;
      }

  shape-read :
      {p : Policy Text} → Shape p → Each (Run S) (all_strings p) → (rest : Text)
      → ReadAs S (printed p ++ rest) p (length (printed p)) (printed_nodes p) (printed_depth p)
  shape-read skips e rest =
      rw (printed-skip, sym nodes-skip, sym depth-skip) (written_read skip_value skipped (writable-skip S) mapping-skip (lit≤ tt) (lit≤ tt) rest)
  shape-read (certifies r l h) e rest =
      rw (printed-certified r l, sym (nodes-certified r l), sym (depth-certified r l))
      (written_read (certified_value empty_object r l) (certified r l) (writable-certified S empty_object r l (writable-empty S) e)
      (mapping-certified empty_object r l) (omega (arith, height-certified empty_object r l (lit≤ tt))) (nodes-within r l h) rest)

  -- the text of a policy that is printable but for its length is read as that policy, list by list and string by string
  pub round_trip :
      (p : Policy Text) → Proper S p → (rest : Text) → ReadAs S (printed p ++ rest) p (length (printed p)) (printed_nodes p) (printed_depth p)
  round_trip p h rest = shape-read (shape_of p h.shape) h.string_bytes rest

  -- printing what was read back gives the same bytes
  pub prints-again : (p : Policy Text) (h : Proper S p) (rest : Text) → printed (strings (printed p ++ rest) (round_trip p h rest).places) ≡ printed p
  prints-again p h rest = ap printed (round_trip p h rest).same

  -- two such policies share a text only if they are equal
  pub printed-injective : (p q : Policy Text) → Proper S p → Proper S q → printed p ≡ printed q → p ≡ q
  printed-injective p q hp hq e = read_as-unique (rw e at (round_trip p hp [])) (round_trip q hq [])
