-- `span::put_list` meets its contract: what is still to be put, put into the table as it is, gives the table as it has to be. Assumes nothing.
use mathlib.Core.Path.{◌∙◌}
use native.Mathlib.Omega.{arith}
use Prim.Native.Nat.{◌+◌, ◌-◌}
use lib.ListN.{length-set}
use Rattle.ast_mapping.proofs.Spans.{place-room, string-read, put_one, put-all}
use Rattle.ast_mapping.proofs.span.put_list.Goals as goal

pub bounds-spans-at : goal.bounds-spans-at
bounds-spans-at c =
    omega (arith, place-room c.requires.tabled c.read_row.ensures c.loop-i-test.true c.args.from c.requires.list_in_bounds c.loop-i.auto.spans)

pub bounds-spans-at-in-loop-i : goal.bounds-spans-at-in-loop-i
bounds-spans-at-in-loop-i c =
    simp length-set (place-room c.requires.tabled c.read_row.ensures c.loop-i-test.true c.args.from c.requires.list_in_bounds c.loop-i.auto.spans)

pub loop-i-preserved : goal.loop-i-preserved
loop-i-preserved c =
    let r = string-read c.requires.tabled c.read_row.ensures c.loop-i-test.true c.read_row-string.ensures in
    let n = c.args.list.0 in
    rw (r.from, r.to)
    (c.loop-i.invariant ∙ put_one c.args.table.now c.loop-i.spans (n + 1) c.args.from (c.read_row.result.past.0 - (n + 1)) c.loop-i.i c.loop-i-test.true)

pub returns : goal.returns
returns c = put-all c.requires.tabled c.read_row.ensures c.args.from c.loop-i.i c.loop-i-test.false c.loop-i.invariant
