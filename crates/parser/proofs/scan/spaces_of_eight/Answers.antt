-- `scan::spaces_of_eight` meets its contract: what is left without the spaces has a byte of 0 for each. Assumes nothing.
use Rattle.std.proofs.Common.{arith}
use Rattle.parser.proofs.Eights.{eight-told}
use Rattle.parser.proofs.scan.spaces_of_eight.Goals as goal

pub returns : goal.returns
returns c = eight-told c.args.eight.now c.from_le_bytes-rest.result c.told-eight c.fits-eight (omega arith)
