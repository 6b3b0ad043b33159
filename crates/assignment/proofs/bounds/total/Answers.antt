use Rattle.std.proofs.Common.{arith, rules, pos, slice_index_or, w8, SFits, ◌≡◌}
use Rattle.std.specs.Prelude.{ℤ}
use Rattle.std.proofs.lemmas.Int.{ints}
use Rattle.assignment.proofs.Totals.{total-more}
use Rattle.assignment.proofs.bounds.total.Goals as goal

pub loop-x-preserved : goal.loop-x-preserved
loop-x-preserved c =
    let more = total-more c.args.numbers.now c.loop-x.x-index c.loop-x-test.true in
    let x : ℤ = slice_index_or c.args.numbers.now c.loop-x.x-index (pos 0) in
    let fits : SFits w8 x = search rules in
    let is : c.from-sum.result ≡ x = omega (arith, ints) in
    record {
      value = omega (arith, ints);
      low = omega (arith, ints);
      high = omega (arith, ints);
    }
