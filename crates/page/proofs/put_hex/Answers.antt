-- `put_hex` meets its contract: the backslash and the letter are one piece, the digits another. Assumes nothing.
use Rattle.std.proofs.Common.{append-nil}
use Rattle.lines.specs.Texts.{pair}
use Rattle.pieces.specs.Laws.{wrote_then}
use Rattle.page.proofs.put_hex.Goals as goal

pub returns : goal.returns
returns c = rw (append-nil (pair c.args.b)) at (wrote_then c.put-end.ensures c.put_hex.ensures)
