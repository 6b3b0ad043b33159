use Rattle.std.proofs.Common.{◌-◌, ℕ, ap, arith}
use Rattle.length_bound.proofs.FrontReads.{kept}
use Rattle.length_bound.proofs.checking.keep.Goals as goal

pub returns : goal.returns
returns c =
    kept c.args.front.now.items c.args.piece.now _ (512 - c.len-room.result) c.min-n.result (omega arith) (ap (λ (n : ℕ). 512 - n) c.len-room.ensures.value) c.min-n.ensures c.push_front.ensures
