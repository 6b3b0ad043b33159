use Rattle.std.proofs.Common.{◌≡◌, ◌+◌, ◌-◌, ◌<◌, ℕ, min, slice_index, arith, ap, sym, subst, ◌∙◌}
use Rattle.balance_rule.specs.Costs.{loss_cost, most_earned, never}
use Rattle.balance_rule.specs.Grounds.{comes_promoted}
use Rattle.balance_rule.specs.LeastWays.{IsLeast, ends_on, seen_by}
use Rattle.balance_rule.proofs.Lost.{loss-last, loss-short}
use Rattle.balance_rule.proofs.Seen.{home-inside}
use Rattle.balance_rule.proofs.fates.loss_at.Goals as goal

pub returns-then-i-lt56 : goal.returns-then-i-lt56
returns-then-i-lt56 c = λ o p ground out.
    let h : ℕ = seen_by c.args.ground.now.side (8 + c.args.f) in
    let e : c.capped_sum.result ≡ min never ((96 - slice_index c.args.ground.now.tariff.earned c.args.i) + c.fee_at.result) = c.capped_sum.ensures ∙ ap (λ (n : ℕ). min never (n + c.fee_at.result)) c.saturating_sub.ensures in
    subst (IsLeast c.args.ground.now.side c.args.ground.now.frozen h (ends_on h (seen_by c.args.ground.now.side c.args.i)) (loss_cost p c.args.ground.now.frozen c.args.ground.now.side h))
    (sym (e ∙ ap (λ (n : ℕ). min never ((96 - slice_index c.args.ground.now.tariff.earned c.args.i) + n)) c.fee_at.ensures))
    (loss-short p c.args.ground.now.frozen c.args.ground.now.side h ground.known (home-inside c.args.ground.now.side c.args.f c.requires.file) c.args.i _ _ _ c.if-i-lt56.true (ground.tariff c.args.i c.requires.inside).earned_is (ground.reaches c.args.f _ c.requires.file out c.args.i c.requires.inside))

pub returns-else-i-lt56 : goal.returns-else-i-lt56
returns-else-i-lt56 c = λ o p ground out.
    let h : ℕ = seen_by c.args.ground.now.side (8 + c.args.f) in
    let f : ℕ = c.args.i - 56 in
    let low : f < 8 = omega arith in
    let back : 56 + f ≡ c.args.i = omega arith in
    let e : c.capped_sum-else-i-lt56.result ≡ min never ((96 - slice_index c.args.ground.now.most_promoted f) + c.toll_at.result) = c.capped_sum-else-i-lt56.ensures ∙ ap (λ (n : ℕ). min never (n + c.toll_at.result)) c.saturating_sub-else-i-lt56.ensures in
    subst (IsLeast c.args.ground.now.side c.args.ground.now.frozen h (ends_on h (seen_by c.args.ground.now.side c.args.i)) (loss_cost p c.args.ground.now.frozen c.args.ground.now.side h))
    (sym (e ∙ ap (λ (n : ℕ). min never ((96 - slice_index c.args.ground.now.most_promoted f) + n)) c.toll_at.ensures))
    (loss-last p c.args.ground.now.frozen c.args.ground.now.side h ground.known (home-inside c.args.ground.now.side c.args.f c.requires.file) c.args.i _ _ _ c.if-i-lt56.false c.requires.inside
    (ground.most_promoted f low ∙ ap (λ (n : ℕ). most_earned p c.args.ground.now.frozen c.args.ground.now.side (comes_promoted c.args.ground.now.frozen c.args.ground.now.side (seen_by c.args.ground.now.side n))) back) (ground.reaches c.args.f _ c.requires.file out c.args.i c.requires.inside))
