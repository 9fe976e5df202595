-- `put_first` meets its contract: the bytes for which there is room are copied, and past the buffer's end none would count. Assumes nothing.
use Rattle.std.proofs.Common.{◌≡◌, ℕ, ◌-◌, List, length, take, sym, ap, ◌∙◌, arith, length-take-le}
use borrow.Rule.Slice.PartMut.{put_mid}
use Rattle.pieces.specs.Laws.{past-cut, put_mid-sets, sets_first}
use Rattle.pieces.proofs.put_first.Goals as goal

pub returns : goal.returns
returns c =
    let out : List ℕ = c.args.out.now in
    let at : ℕ = c.args.at in
    let room : ℕ = length out - at in
    let first : List ℕ = take room c.args.piece.now in
    let long : length first ≡ room = length-take-le room c.args.piece.now (omega (arith, c.requires)) in
    record {
      place = sym (past-cut out at c.args.piece.now (omega (arith, c.requires)));
      buffer =
          ap (put_mid at room out) c.copy_from_slice.ensures.after ∙ put_mid-sets out at room first (omega (arith, c.requires, long)) (sym long)
          ∙ sets_first out at c.args.piece.now (omega (arith, c.requires)) (omega (arith, c.requires));
    }
