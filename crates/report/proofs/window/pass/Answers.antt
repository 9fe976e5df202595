-- `window::pass` meets its contract: what is left to pass gives what the whole gives, and each byte passed takes a column. Assumes nothing.
use Rattle.std.proofs.Common.{arith, ◌∙◌, sym}
use Rattle.report.proofs.Passes.{pass-stop, pass-more, pass-end, takes-column}
use Rattle.report.proofs.window.pass.Goals as goal
use Rattle.report.proofs.window.pass.Goals.{in-None, in-Some+then-room-columns}

pub overflow_add-at : goal.overflow_add-at
overflow_add-at g c = omega (arith, c.loop-b.invariant.counted, c.loop-b.invariant.within, c.columns-more.ensures, takes-column c.in-Some.b.now, c.if-room-columns.false, c.ranges.room)

pub loop-b-preserved : goal.loop-b-preserved
loop-b-preserved g c =
    let l = c.loop-b in
    let k = c.columns-more in
    let road = rw c.into_iter-b-iterator.ensures.into_iter_gives at l.yielded_by in
    record {
      counted = omega (arith, l.invariant.counted, k.ensures, takes-column c.in-Some.b.now);
      within = omega (arith, l.invariant.within, c.if-room-columns.false);
      same =
          λ all y. l.invariant.same all y
          ∙ pass-more g.I.Iterator.next_gives c.args.bytes l.b-iterator c.next.new.self all (record { runs = y }) l.yielded road c.args.room l.at l.columns
          c.in-Some.b k.result c.in-Some.ensures.steps k.ensures c.if-room-columns.false;
    }

pub returns-clause-value : goal.returns-clause-value
returns-clause-value g c all y =
    let l = c.loop-b in
    let road = rw c.into_iter-b-iterator.ensures.into_iter_gives at l.yielded_by in
    elim c.match-next.branch [
      | in-None w ↦
          pass-end g.I.Iterator.next_gives c.args.bytes l.b-iterator c.next.new.self all (record { runs = y }) l.yielded road c.args.room l.at l.columns
          w.in-None.ensures.steps ∙ sym (l.invariant.same all y)
      | in-Some+then-room-columns w ↦
          pass-stop g.I.Iterator.next_gives c.args.bytes l.b-iterator c.next.new.self all (record { runs = y }) l.yielded road c.args.room l.at l.columns
          w.in-Some.b w.in-Some.ensures.steps (omega (arith, w.if-room-columns.true, w.columns-more.ensures)) ∙ sym (l.invariant.same all y)
    ]
