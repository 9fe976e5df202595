-- A lookup's walk over the children of an object. Assumes nothing.
use mathlib.Core.Path.{◌≡◌, refl, ap, ◌∙◌}
use Prim.Native.Nat.{ℕ, suc, ◌+◌, ◌≤◌, ◌<◌}
use native.Mathlib.Omega.{arith}
use mathlib.Core.Bool.{Bool, true, false, cond}
use mathlib.Core.Option.{some}
use lib.ListN.{length}
use lib.Seq.{slice}
use Rattle.std.specs.Prelude.{Option, Some, None}
use Rattle.cel_text.specs.Byte.{Text}
use Rattle.cel_text.specs.Table.{word}
use Rattle.cel_policy.specs.Names.{same, spelling}
use Rattle.cel_policy.specs.Policy.{Span}
use Rattle.cel_policy.specs.Mapping.{Nodes, childless, ◌▹◌∶◌, lookup}
use Rattle.cel_policy.specs.Sizes.{sizes}
use Rattle.parser.specs.declared.Node.{Node as Numbered}
use Rattle.parser.specs.declared.row.Row.{Row}
use Rattle.ast_mapping.specs.View.{RowRead, node_at, children, Held}
use Rattle.ast_mapping.specs.Steps.{node_of, found_as, FoundIf, With, Looked}
use Rattle.ast_mapping.specs.declared.tree.TreeNode.{TreeNode}
use Rattle.ast_mapping.proofs.View.{Begins, begins-none, past, Child, next-child, last-child}

-- the children before number `next` were looked at
pub record Passed (e : TreeNode) (name next : ℕ) (r : Option TreeNode) : Type 0 where
  pub before : Nodes Span
  pub begins : Begins (children (node_of e)) before
  pub place : next ≡ suc e.number.0 + sizes before
  pub found : found_as node_of r ≡ lookup name before
  pub same : FoundIf (With e.table.now) r

pub none_passed : (e : TreeNode) (name : ℕ) → Passed e name (e.number.0 + 1) None
unfolding lookup
none_passed e name = record { before = childless; begins = begins-none (children (node_of e)); place = omega arith; found = refl; same = tt }

module _ {e : TreeNode} {name : ℕ} {next : Numbered} {r : Option TreeNode} (p : Passed e name next.0 r) {whole : Row} (k : RowRead e.table.now e.number.0 whole) where
  pub all-passed : whole.past.0 ≤ next.0 → Looked e name r
  all-passed l =
      record {
        found = p.found ∙ ap (lookup name) (last-child e.table.now e.text.now e.number.0 e.held p.begins p.place (omega (arith, k.past)));
        same = p.same;
      }

  -- the next child
  module _ (l : next.0 < whole.past.0) where
    passing : Child e.table.now e.text.now e.number.0 e.held p.before next.0
    passing = next-child e.table.now e.text.now e.number.0 e.held p.begins p.place (omega (arith, k.past))

    pub child-held : Held e.table.now e.text.now next.0
    child-held = passing.is

    module _ {row : Row} (i : RowRead e.table.now next.0 row) where
      pub key-inside : (row.keyfrom.0 ≤ row.keyto.0) × (row.keyto.0 ≤ length e.text.now)
      key-inside = (omega (arith, i.keyfrom, i.keyto, passing.ordered), omega (arith, i.keyto, passing.inside))

      module _ {b : Bool} {part : Text} (is : b ≡ same part (spelling name)) (q : part ≡ slice row.keyfrom.0 row.keyto.0 e.text.now) where
        one-passed : (r' : Option TreeNode) → FoundIf (With e.table.now) r'
            → found_as node_of r' ≡ cond b (some (node_at e.table.now e.text.now next.0)) (found_as node_of r) → Passed e name row.past.0 r'
        unfolding lookup
        one-passed r' s f =
            let key : part ≡ slice (word e.table.now next.0 3) (word e.table.now next.0 4) e.text.now = q ∙ rw (i.keyfrom, i.keyto) in
            record {
              before = p.before ▹ slice (word e.table.now next.0 3) (word e.table.now next.0 4) e.text.now ∶ node_at e.table.now e.text.now next.0;
              begins = passing.begins;
              place = i.past ∙ past e.table.now e.text.now next.0 passing.is ∙ omega (arith, p.place);
              found = f ∙ cc (is, key, p.found);
              same = s;
            }

        -- it has this key, or another
        pub hit : b ≡ true → (h : Held e.table.now e.text.now next.0) → Passed e name row.past.0 (Some (record { text = e.text; table = e.table; number = next; held = h }))
        hit t h = one-passed (Some (record { text = e.text; table = e.table; number = next; held = h })) refl (rw t)

        pub miss : b ≡ false → Passed e name row.past.0 r
        miss t = one-passed r p.same (rw t)
