-- `words::put_part` meets its contract: where the text ends before `from` there is nothing, else the part is one piece. Assumes nothing.
use Rattle.pieces.specs.Laws.{wrote_none}
use Rattle.std.proofs.Common.{◌<◌, arith}
use mathlib.Core.List.{flat_map}
use Rattle.page.specs.Page.{shown}
use Rattle.report.proofs.Parts.{part-outside}
use Rattle.report.proofs.words.put_part.Goals as goal

pub returns-in-None : goal.returns-in-None
unfolding shown flat_map
returns-in-None c =
    let past : c.min.result < c.args.from = omega (arith, c.in-None.ensures.lookup.0, c.min.ensures) in
    rw (part-outside c.args.text.now c.args.from c.args.to c.min.result c.min.ensures past) (wrote_none c.args.out.now c.args.at)
