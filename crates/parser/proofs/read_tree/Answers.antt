-- `read_tree` meets its contract: to read over the cleared words is to read. Assumes nothing.
use Rattle.std.proofs.Common.{◌≡◌, ◌++◌, length, take, drop, ap, ◌∙◌, length-take-le}
use Rattle.cel_text.specs.Table.{Words, node_words}
use Rattle.cel_text.specs.Answer.{tree_answer, tree_over}
use Rattle.cel_text.proofs.Laws.Table.{clean, over-cleared, answer-cleared}
use Rattle.parser.proofs.Answers.{clear-all, answer-short, table-short}
use Rattle.parser.proofs.read_tree.Goals as goal

pub returns-then-table-lt-NODE_WORDS : goal.returns-then-table-lt-NODE_WORDS
returns-then-table-lt-NODE_WORDS c =
    let a = c.args in
    let h = c.if-table-lt-NODE_WORDS.true in
    record { answer = c.too_short.ensures ∙ answer-short a.text.now (length a.table.now) h; table = table-short a.text.now a.table.now h }

pub returns : goal.returns
returns c =
    let x = c.args.text.now in
    let w = c.args.table.now in
    let h = c.if-table-lt-NODE_WORDS.false in
    let r = c.read_over.ensures in
    let v : c.clear.new.table ++ drop node_words w ≡ clean x w h
    = ap (λ (l : Words). l ++ drop node_words w) (c.clear.ensures ∙ clear-all (take node_words w) node_words (length-take-le node_words w h)) in
    record { answer = r.answer ∙ ap (λ (l : Words). tree_answer (length l) x) v ∙ answer-cleared x w h; table = r.table ∙ ap (tree_over x) v ∙ over-cleared x w h }
