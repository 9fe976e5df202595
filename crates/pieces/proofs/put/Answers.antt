-- `put` meets its contract: nothing past the buffer's end, the first bytes where room is short, else the whole piece. Assumes nothing.
use Rattle.std.proofs.Common.{ℕ, ◌+◌, ◌-◌, ◌≤◌, List, length, sym, ap, ◌∙◌, arith}
use borrow.Rule.Slice.PartMut.{put_mid}
use Rattle.pieces.specs.Laws.{past_fits, past-cut, sets-out, put_mid-sets}
use Rattle.pieces.proofs.put.Goals as goal

pub returns-then-out-at : goal.returns-then-out-at
returns-then-out-at c =
    record {
      place = sym (past-cut c.args.out.now c.args.at c.args.piece.now (omega (arith, c.if-out-at.true)) ∙ omega (arith, c.if-out-at.true));
      buffer = sym (sets-out c.args.piece.now c.args.out.now c.args.at (omega (arith, c.if-out-at.true)));
    }

pub returns : goal.returns
returns c =
    let out : List ℕ = c.args.out.now in
    let at : ℕ = c.args.at in
    let piece : List ℕ = c.args.piece.now in
    let k : ℕ = at + length piece - at in
    let fits : at + length piece ≤ length out = omega (arith, c.if-out-at-2.false, c.if-out-at.false) in
    record {
      place = sym (past_fits out at piece fits);
      buffer = ap (put_mid at k out) c.copy_from_slice.ensures.after ∙ put_mid-sets out at k piece fits (omega arith);
    }
