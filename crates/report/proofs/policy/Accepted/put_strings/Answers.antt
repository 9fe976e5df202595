-- `policy::Accepted::put_strings` meets its contract: each string is one piece more. Assumes nothing.
use Rattle.pieces.specs.Laws.{wrote_then}
use Rattle.report.proofs.Parts.{strings-more}
use Rattle.report.proofs.policy.Accepted.put_strings.Goals as goal

pub loop-i-preserved : goal.loop-i-preserved
loop-i-preserved c =
    let l = c.loop-i in
    let f = c.word-from in
    let t = c.word-to in
    let more = strings-more c.args.self.text.now c.args.self.spans.now c.args.first l.i f.result t.result f.ensures t.ensures in
    rw (← more) (wrote_then l.invariant c.put_string-end.ensures)
