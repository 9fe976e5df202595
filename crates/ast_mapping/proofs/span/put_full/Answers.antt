-- `span::put_full` meets its contract: three lists, one after the other. Assumes nothing.
use Rattle.ast_mapping.proofs.Spans.{put-lists}
use Rattle.ast_mapping.proofs.span.put_full.Goals as goal

pub returns : goal.returns
returns c =
    let p = c.put_list-first in
    let q = c.put_list-second in
    let r = c.put_list-third in
    rw c.number.ensures
    (put-lists c.args.table.now c.args.request c.args.response c.args.spans.now p.new.spans q.new.spans r.new.spans p.result q.result r.result p.ensures q.ensures r.ensures)
