use Rattle.std.proofs.Common.{arith}
use Rattle.balance_prose.specs.Accounts.{counted_of, made_up}
use Rattle.balance_prose.proofs.Sums.{sum_on-next, sum_on-past}
use Rattle.balance_prose.proofs.accounts.count_men.Goals as goal

pub loop-i-preserved : goal.loop-i-preserved
loop-i-preserved c =
    let rows = c.args.rows.now in
    let homes = c.args.homes.now in
    let counted = sum_on-next counted_of rows homes c.loop-i.i (omega arith) (omega (arith, c.requires.size)) in
    let spared = sum_on-next made_up rows homes c.loop-i.i (omega arith) (omega (arith, c.requires.size)) in
    record {
      counted = omega (arith, counted, c.loop-i.invariant.counted);
      made_up = omega (arith, spared, c.loop-i.invariant.made_up);
      small = omega (arith, c.loop-i.invariant.small);
      made_small = omega (arith, c.loop-i.invariant.made_small);
    }

pub returns : goal.returns
returns c =
    let counted = sum_on-past counted_of c.args.rows.now c.args.homes.now c.loop-i.i (omega arith) in
    let spared = sum_on-past made_up c.args.rows.now c.args.homes.now c.loop-i.i (omega arith) in
    record {
      counted = omega (arith, counted, c.loop-i.invariant.counted);
      made_up = omega (arith, spared, c.loop-i.invariant.made_up);
      small = omega (arith, c.loop-i.invariant.small, c.requires.rows);
      made_small = omega (arith, c.loop-i.invariant.made_small, c.requires.rows);
    }
