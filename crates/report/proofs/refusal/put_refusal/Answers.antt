-- `refusal::put_refusal` meets its contract: its pieces are those of a refusal about a byte, or about a node. Assumes nothing.
use Rattle.cel_text.specs.Reading.{too_many}
use Rattle.cel_text.specs.Answer.{fault_number}
use borrow.Author.Tests.{le-leb, lt-leb}
use Rattle.pieces.specs.Laws.{wrote_then}
use Rattle.report.specs.Refusal.{refusal_text}
use Rattle.report.proofs.refusal.put_refusal.Goals as goal

pub returns-then-answer-le-TOO_MANY : goal.returns-then-answer-le-TOO_MANY
unfolding refusal_text
returns-then-answer-le-TOO_MANY c =
    let r = c.args.answer.refusal in
    let h = c.if-answer-le-TOO_MANY.true in
    let w = c.within-mark.ensures.place in
    let p = rw c.within-mark.ensures.text at c.put_byte_place.ensures in
    rw (le-leb r (fault_number too_many) h, ← w) (wrote_then c.say-end.ensures (wrote_then (rw c.reading.ensures at c.say-end-then-answer-le-TOO_MANY.ensures) p))

pub returns : goal.returns
unfolding refusal_text
returns c =
    let r = c.args.answer.refusal in
    let h = c.if-answer-le-TOO_MANY.false in
    let k = c.kind.ensures in
    let t = c.start.ensures.place in
    let p = rw c.start.ensures.text at c.put_node_place.ensures in
    rw (lt-leb r (fault_number too_many) h, ← k, ← t) (wrote_then c.say-end.ensures (wrote_then c.put_mapping-end.ensures p))
