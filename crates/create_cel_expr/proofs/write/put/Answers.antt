-- `write::put` meets its contract: the copy fills the front of what stands from the place on. Assumes nothing.
use Rattle.std.proofs.Common.{ℕ, ◌+◌, ◌-◌, List, length, sym, ap, ◌∙◌, arith}
use borrow.Rule.Slice.PartMut.{put_mid}
use Rattle.pieces.specs.Laws.{past_fits, put_mid-sets}
use Rattle.create_cel_expr.proofs.write.put.Goals as goal

pub returns : goal.returns
returns c =
    let out : List ℕ = c.args.out.now in
    let at : ℕ = c.args.at in
    let piece : List ℕ = c.args.piece.now in
    let k : ℕ = at + length piece - at in
    record {
      place = sym (past_fits out at piece c.requires.room);
      buffer = ap (put_mid at k out) c.copy_from_slice.ensures.after ∙ put_mid-sets out at k piece c.requires.room (omega arith);
    }
