-- `read_over` meets its contract: the counted words are lent, what is found gives the answer, and the answer says whether they are to be cleared.
-- Assumes nothing.
use Rattle.std.proofs.Common.{length, sym, ap, ◌∙◌, length-take-le}
use Rattle.cel_text.specs.Table.{node_words, nodes_left}
use Rattle.cel_text.specs.Answer.{Answer}
use Rattle.parser.specs.Found.{stale_from}
use Rattle.parser.proofs.Answers.{find-answer, find-over, answer-short, over-short}
use Rattle.parser.proofs.read_over.Goals as goal

pub returns-then-table-lt-NODE_WORDS : goal.returns-then-table-lt-NODE_WORDS
returns-then-table-lt-NODE_WORDS c =
    let a = c.args in
    let h = c.if-table-lt-NODE_WORDS.true in
    record { answer = c.too_short.ensures ∙ answer-short a.text.now (length a.table.now) h; table = over-short a.text.now a.table.now h }

pub slice_bounds-counted-end-2 : goal.slice_bounds-counted-end-2
slice_bounds-counted-end-2 c = sym (length-take-le node_words c.args.table.now c.if-table-lt-NODE_WORDS.false)

pub find-found-requires : goal.find-found-requires
find-found-requires c = length-take-le node_words c.args.table.now c.if-table-lt-NODE_WORDS.false

pub returns : goal.returns
returns c =
    let x = c.args.text.now in
    let w = c.args.table.now in
    let h = c.if-table-lt-NODE_WORDS.false in
    let f = c.find-found in
    let a = c.answer_of-answer.ensures in
    let e = c.stale.ensures ∙ ap (λ (r : Answer). stale_from (nodes_left r.refusal)) a in
    record {
      answer = a ∙ find-answer x w h f.new.table f.result f.ensures;
      table = find-over x w h f.new.table f.result f.ensures f.auto.table _ e c.clear.new.table c.clear.ensures;
    }
