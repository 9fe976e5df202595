-- `reply::Reply::to_body` meets its contract: it hands over four of the numbers. Assumes nothing.
use Rattle.std.proofs.Common.{◌≡◌, ap, length, arith}
use Rattle.cel_text.specs.Table.{node_words}
use Rattle.cel_policy.specs.Spans.{span_words}
use Rattle.recording.specs.Replay.{reply_of, reply_to}
use Rattle.recording.proofs.reply.Reply.to_body.Goals as goal

pub returns : goal.returns
unfolding reply_to
returns c =
    let w : length c.args.nodes.now ≡ node_words = omega arith in
    let v : length c.args.spans.now ≡ span_words = omega arith in
    ap reply_of (rw (w, v) at c.read_over-read.ensures.answer)
