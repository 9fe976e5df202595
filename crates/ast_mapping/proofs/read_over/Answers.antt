-- `read_over` meets its contract: a short span table is refused first; then the tree is read over the node table and mapped, and a refusal clears.
-- Assumes nothing.
use Rattle.cel_text.specs.Table.{hold_over}
use Rattle.cel_text.specs.Answer.{tree_over}
use Rattle.cel_policy.specs.Policy.{Counted}
use Rattle.cel_policy.specs.Spans.{span_words}
use Rattle.cel_policy.specs.Answers.{policy_nodes_over, policy_spans_over}
use Rattle.ast_mapping.proofs.Policies.{lent, counted_words, ensured-short, root-held, ensured}
use Rattle.ast_mapping.proofs.read_over.Goals as goal

pub returns-then-spans-lt-SPAN_WORDS : goal.returns-then-spans-lt-SPAN_WORDS
unfolding policy_nodes_over policy_spans_over
returns-then-spans-lt-SPAN_WORDS c =
    let a = c.args in
    let e = ensured-short hold_over (λ (k : Counted). span_words) lent a.text.now a.nodes.now a.spans.now c.if-spans-lt-SPAN_WORDS.true c.too_short.ensures in
    record { answer = e.0; nodes = e.1.0; spans = e.1.1 }

pub map_tree-read-requires-clause-held : goal.map_tree-read-requires-clause-held
unfolding tree_over
map_tree-read-requires-clause-held c =
    let a = c.args in
    let t = c.read_over-tree in
    root-held hold_over (λ (k : Counted). span_words) lent a.text.now a.nodes.now a.spans.now c.if-spans-lt-SPAN_WORDS.false t.result t.new.table t.ensures.answer t.ensures.table

pub slice_bounds-clear-end-2 : goal.slice_bounds-clear-end-2
slice_bounds-clear-end-2 c = counted_words c.args.spans.now c.map_tree-read.new.spans c.map_tree-read.auto.spans c.if-spans-lt-SPAN_WORDS.false

pub returns : goal.returns
unfolding policy_nodes_over policy_spans_over tree_over
returns c =
    let a = c.args in
    let t = c.read_over-tree in
    let m = c.map_tree-read in
    let v = c.clear in
    let e =
    ensured hold_over (λ (k : Counted). span_words) lent a.text.now a.nodes.now a.spans.now c.if-spans-lt-SPAN_WORDS.false t.result t.new.table
    t.ensures.answer t.ensures.table m.result m.new.spans m.ensures m.auto.spans c.spare.result c.spare.ensures
    v.new.table v.ensures in
    record { answer = e.0; nodes = e.1.0; spans = e.1.1 }
