-- `write::list` meets its contract: at each turn whatever writes the rest of the list from here on has written all of it. Assumes nothing.
use Rattle.pieces.specs.Laws.{fits-first, fits-then}
use Rattle.create_cel_expr.proofs.Lists.{room-list, room_next, room-last, going_next, going-last}
use Rattle.create_cel_expr.proofs.write.list.Goals as goal

pub string-past-requires-clause-fits : goal.string-past-requires-clause-fits
string-past-requires-clause-fits c =
    let a = c.args in
    fits-first _ (room-list a.given.now a.begin a.count c.if-count-eq0.false c.requires.fits)

pub loop-i-init : goal.loop-i-init
loop-i-init c =
    let a = c.args in
    (fits-then c.string-past.ensures (room-list a.given.now a.begin a.count c.if-count-eq0.false c.requires.fits), λ out past w. w)

pub string-past-requires-in-loop-i-clause-fits : goal.string-past-requires-in-loop-i-clause-fits
string-past-requires-in-loop-i-clause-fits c =
    let a = c.args in
    fits-first _ (room_next a.given.now a.begin a.count c.loop-i-test.true c.loop-i.invariant.0)

pub loop-i-preserved : goal.loop-i-preserved
loop-i-preserved c =
    let a = c.args in
    let l = c.loop-i in
    let t = c.loop-i-test in (
      fits-then c.string-past-in-loop-i.ensures (room_next a.given.now a.begin a.count t.true l.invariant.0),
      going_next a.given.now a.begin a.count t.true l.invariant.1 c.string-past-in-loop-i.ensures,
    )

pub put-requires : goal.put-requires
put-requires c =
    let a = c.args in
    room-last a.given.now a.begin a.count c.loop-i-test.false c.loop-i.invariant.0

pub returns : goal.returns
returns c =
    let a = c.args in
    going-last a.given.now a.begin a.count c.if-count-eq0.false c.string-past.ensures c.loop-i-test.false c.loop-i.invariant.1 c.put.ensures
