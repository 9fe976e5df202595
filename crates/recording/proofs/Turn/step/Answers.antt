-- `Turn::step` meets its contract: event by event. Assumes nothing.
use Rattle.recording.specs.declared.window.Event.TheVariants.{Body, Skipping, Skipped, Wanting, Last}
use Rattle.recording.proofs.Turns.{moved, after-as, body-after, skipped-after, last-after, skipping-after, wanting-after}
use Rattle.std.proofs.Common.{refl, arith}
use Rattle.recording.proofs.Turn.step.Goals as goal

pub slice_bounds-to_body-count : goal.slice_bounds-to_body-count
slice_bounds-to_body-count c = (moved _ _ _ (Body _ _) c.in-Body.ensures).0

pub slice_bounds-to_body-start : goal.slice_bounds-to_body-start
slice_bounds-to_body-start c = (moved _ _ _ (Body _ _) c.in-Body.ensures).0

pub slice_bounds-to_body-end : goal.slice_bounds-to_body-end
slice_bounds-to_body-end c = (moved _ _ _ (Body _ _) c.in-Body.ensures).2

pub answered-requires : goal.answered-requires
answered-requires c =
    let m = moved _ _ _ (Body _ _) c.in-Body.ensures in
    let p = c.requires in
    record {
      counts = record { count = omega (arith, m.1, m.2, p.count); refused = omega (arith, m.1, m.2, p.refused); used = omega arith };
      to_bound = omega (arith, m.2, p.used);
    }

pub answered-requires-in-Skipped : goal.answered-requires-in-Skipped
answered-requires-in-Skipped c =
    let m = moved _ _ _ (Skipped _) c.in-Skipped.ensures in
    let p = c.requires in
    record {
      counts = record { count = omega (arith, m.0, m.1, p.count); refused = omega (arith, m.0, m.1, p.refused); used = omega arith };
      to_bound = omega (arith, m.1, p.used);
    }

pub overflow_add-result : goal.overflow_add-result
overflow_add-result c = omega (arith, (moved _ _ _ (Skipping _ _) c.in-Skipping.ensures).1, c.requires.used)

pub returns-in-Body : goal.returns-in-Body
returns-in-Body c =
    let a = c.args in
    let d = c.answered in
    after-as a.self d.result a.rest.now a.out.now d.new.out (Body _ _) _ c.in-Body.ensures
    (body-after a.self d.result a.rest.now a.out.now d.new.out _ _ _ c.to_body.ensures d.ensures)

pub returns-in-Skipping : goal.returns-in-Skipping
returns-in-Skipping c =
    let a = c.args in
    after-as a.self _ a.rest.now a.out.now a.out.now (Skipping _ _) _ c.in-Skipping.ensures
    (skipping-after a.self _ a.rest.now a.out.now _ _ refl)

pub returns-in-Skipped : goal.returns-in-Skipped
returns-in-Skipped c =
    let a = c.args in
    let d = c.answered-in-Skipped in
    after-as a.self d.result a.rest.now a.out.now d.new.out (Skipped _) _ c.in-Skipped.ensures
    (skipped-after a.self d.result a.rest.now a.out.now d.new.out _ _ c.too_long.ensures d.ensures)

pub returns-in-Wanting : goal.returns-in-Wanting
returns-in-Wanting c =
    let a = c.args in
    after-as a.self _ a.rest.now a.out.now a.out.now Wanting _ c.in-Wanting.ensures (wanting-after a.self _ a.rest.now a.out.now refl)

pub returns-in-Last : goal.returns-in-Last
returns-in-Last c =
    let a = c.args in
    let p = c.put_last in
    after-as a.self _ a.rest.now a.out.now p.new.out (Last _) _ c.in-Last.ensures
    (last-after a.self _ a.rest.now a.out.now p.new.out _ _ refl p.ensures)
