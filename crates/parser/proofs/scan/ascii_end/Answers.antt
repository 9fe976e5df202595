-- `scan::ascii_end` meets its contract: where the greatest byte is of ASCII, the run is the whole text. Assumes nothing.
use Rattle.std.proofs.Common.{sym, ◌∙◌}
use Rattle.parser.proofs.Runs.{all_ascii}
use Rattle.parser.proofs.scan.ascii_end.Goals as goal

pub returns-then-has : goal.returns-then-has
returns-then-has c =
    let g = c.greatest in
    sym (all_ascii c.args.text.now g.result (sym c.has.ensures ∙ c.if-has.true) g.ensures)
