-- `read_policy` meets its contract: a short span table is refused first; then the tree is read and mapped, and the words after the strings are cleared.
-- Assumes nothing.
use mathlib.Core.Path.{ap, ◌∙◌}
use Prim.Native.Nat.{ℕ, ◌*◌}
use Rattle.cel_text.specs.Table.{hold}
use Rattle.cel_text.specs.Answer.{tree_table}
use Rattle.cel_policy.specs.Policy.{Counted, string_count}
use Rattle.cel_policy.specs.Spans.{spans_left}
use Rattle.cel_policy.specs.Answers.{policy_nodes, policy_spans}
use Rattle.ast_mapping.specs.Spans.{spare_from}
use Rattle.ast_mapping.proofs.Policies.{zeros, counted_words, ensured-short, root-held, ensured}
use Rattle.ast_mapping.proofs.read_policy.Goals as goal

pub returns-then-spans-lt-SPAN_WORDS : goal.returns-then-spans-lt-SPAN_WORDS
unfolding policy_nodes policy_spans
returns-then-spans-lt-SPAN_WORDS c =
    let a = c.args in
    let e = ensured-short hold (λ (k : Counted). 2 * string_count k) zeros a.text.now a.nodes.now a.spans.now c.if-spans-lt-SPAN_WORDS.true c.too_short.ensures in
    record { answer = e.0; nodes = e.1.0; spans = e.1.1 }

pub map_tree-read-requires-clause-held : goal.map_tree-read-requires-clause-held
unfolding tree_table
map_tree-read-requires-clause-held c =
    let a = c.args in
    let t = c.read_tree-tree in
    root-held hold (λ (k : Counted). 2 * string_count k) zeros a.text.now a.nodes.now a.spans.now c.if-spans-lt-SPAN_WORDS.false t.result t.new.table
    t.ensures.answer t.ensures.table

pub slice_bounds-clear-end-2 : goal.slice_bounds-clear-end-2
slice_bounds-clear-end-2 c = counted_words c.args.spans.now c.map_tree-read.new.spans c.map_tree-read.auto.spans c.if-spans-lt-SPAN_WORDS.false

pub returns : goal.returns
unfolding policy_nodes policy_spans tree_table
returns c =
    let a = c.args in
    let t = c.read_tree-tree in
    let m = c.map_tree-read in
    let v = c.clear in
    let i = c.spare.ensures ∙ ap (λ (n : ℕ). spare_from (spans_left m.result.answer.refusal) (2 * n)) c.strings-end.ensures in
    let e =
    ensured hold (λ (k : Counted). 2 * string_count k) zeros a.text.now a.nodes.now a.spans.now c.if-spans-lt-SPAN_WORDS.false t.result t.new.table
    t.ensures.answer t.ensures.table m.result m.new.spans m.ensures m.auto.spans c.spare.result i v.new.table v.ensures in
    record { answer = e.0; nodes = e.1.0; spans = e.1.1 }
