-- `window::read_more` meets its contract: the read leaves the bytes before its part as they are. Assumes nothing.
use Rattle.std.proofs.Common.{refl, ◌∙◌, length, length-take-le, arith}
use Rattle.std.specs.Prelude.{None}
use borrow.Rule.Slice.PartMut.{mid_len}
use Rattle.replay.proofs.Windows.{read-brings}
use Rattle.replay.proofs.window.read_more.Goals as goal

pub returns-in-Ok : goal.returns-in-Ok
returns-in-Ok g c =
    read-brings c.args.input.now c.read.new.buf c.args.kept c.in-Ok.more (omega arith) (c.read.auto.buf ∙ mid_len c.args.kept (length c.args.input.now) c.args.input.now (omega arith))
    c.in-Ok.ensures.bound.0 _ None (rw (length-take-le c.in-Ok.more c.read.new.buf c.in-Ok.ensures.bound.0) refl)
