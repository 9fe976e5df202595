-- `node::arrays_before` meets its contract: of the nodes before it, those are counted that are arrays. Assumes nothing.
use Rattle.std.proofs.Common.{rules, ◌∙◌, eqb}
use native.Mathlib.Nat.{sub-zero}
use Rattle.std.proofs.lemmas.Iterator.{YieldsList-from_range}
use Rattle.std.proofs.lemmas.Iterator.Consumers.{count_from_yields_List, YieldsList-from_filter}
use Rattle.cel_text.specs.Tree.{array}
use Rattle.cel_text.specs.Table.{kind_number}
use Rattle.report.specs.Node.{kind_at}
use Rattle.report.proofs.Walks.{arrays-counted}
use Rattle.report.proofs.node.arrays_before.Goals as goal

pub returns : goal.returns
returns c =
    count_from_yields_List c.filter.result _ c.count.ensures.ran
    (YieldsList-from_filter _ (λ i. eqb (kind_at c.args.table.now i) (kind_number array))
    (YieldsList-from_range 0 c.args.node.0 c.args.node.0 c.filter.ensures.source (sub-zero c.args.node.0)) c.filter.ensures.closure (λ x r q k. search rules))
    ∙ arrays-counted c.args.table.now c.args.node.0
