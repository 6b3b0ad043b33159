use Rattle.std.proofs.Common.{◌≡◌, ◌+◌, ◌*◌, arith, refl, subst}
use Rattle.balance_rule.specs.NextWays.{IsReachTo}
use Rattle.balance_rule.proofs.Growing.{so-far-all, so-far-start}
use Rattle.balance_rule.proofs.reaches.reach_from.Goals as goal

pub loop-rank-init : goal.loop-rank-init
loop-rank-init c = λ p known tariff. so-far-start p _ _ _ _ _ c.requires.first c.requires.last refl refl (tariff c.args.home (omega arith)).gate_is known

pub loop-rank-preserved : goal.loop-rank-preserved
loop-rank-preserved c = λ p known tariff.
    let next : 8 * c.loop-rank.rank + 8 ≡ 8 * (c.loop-rank.rank + 1) = omega arith in
    subst (IsReachTo p c.args.frozen c.args.side c.args.home c.add_rank.new.reach) next (c.add_rank.ensures p known tariff (c.loop-rank.invariant p known tariff))

pub returns : goal.returns
returns c = λ p known tariff. so-far-all _ _ _ _ _ _ (omega arith) (c.loop-rank.invariant p known tariff)
