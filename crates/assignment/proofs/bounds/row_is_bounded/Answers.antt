use Rattle.std.proofs.Common.{arith, rules, below_more, pos, slice_index_or, w8, SFits}
use Rattle.std.specs.Prelude.{ℤ}
use Rattle.std.proofs.lemmas.Int.{ints}
use Rattle.assignment.proofs.bounds.row_is_bounded.Goals as goal

pub loop-j-preserved : goal.loop-j-preserved
loop-j-preserved g c =
    let v : ℤ = slice_index_or c.args.v.now c.loop-j.j (pos 0) in
    let fits : SFits w8 v = search rules in
    let fits_u = c.ranges.u in
    below_more _ _ c.loop-j.invariant (omega (arith, ints))
