use Rattle.std.proofs.Common.{◌≡◌, ◌+◌, ◌-◌, ◌<◌, ℕ, min, slice_index, arith, ap, sym, subst, ◌∙◌}
use Rattle.balance_rule.specs.Costs.{most_earned, never}
use Rattle.sketch_grounds.specs.Limits.{loss_in}
use Rattle.sketch_account.specs.Grounds.{comes_promoted}
use Rattle.balance_rule.specs.LeastWays.{IsLeast, ends_on, seen_by}
use Rattle.sketch_account.proofs.Losing.{loss-last, loss-short}
use Rattle.balance_rule.proofs.Seen.{home-inside}
use Rattle.sketch_account.proofs.losses.loss_at.Goals as goal

pub returns-then-i-lt56 : goal.returns-then-i-lt56
returns-then-i-lt56 c = λ o p R ground out.
    let h : ℕ = seen_by c.args.ground.now.base.side (8 + c.args.f) in
    let e : c.capped_sum.result ≡ min never ((96 - slice_index c.args.ground.now.base.tariff.earned c.args.i) + c.fee_at.result) = c.capped_sum.ensures ∙ ap (λ (n : ℕ). min never (n + c.fee_at.result)) c.saturating_sub.ensures in
    subst (IsLeast c.args.ground.now.base.side c.args.ground.now.base.frozen h (ends_on h (seen_by c.args.ground.now.base.side c.args.i)) (loss_in p c.args.ground.now.base.frozen R c.args.ground.now.base.side h))
    (sym (e ∙ ap (λ (n : ℕ). min never ((96 - slice_index c.args.ground.now.base.tariff.earned c.args.i) + n)) c.fee_at.ensures))
    (loss-short p c.args.ground.now.base.frozen R c.args.ground.now.base.side h ground.base.known (home-inside c.args.ground.now.base.side c.args.f c.requires.file) c.args.i _ _ _ c.if-i-lt56.true (ground.base.tariff c.args.i c.requires.inside).earned_is (ground.base.reaches c.args.f _ c.requires.file out c.args.i c.requires.inside))

pub returns-else-i-lt56 : goal.returns-else-i-lt56
returns-else-i-lt56 c = λ o p R ground out.
    let h : ℕ = seen_by c.args.ground.now.base.side (8 + c.args.f) in
    let f : ℕ = c.args.i - 56 in
    let low : f < 8 = omega arith in
    let back : 56 + f ≡ c.args.i = omega arith in
    let e : c.capped_sum-else-i-lt56.result ≡ min never ((96 - slice_index c.args.ground.now.most_promoted f) + c.toll_at.result) = c.capped_sum-else-i-lt56.ensures ∙ ap (λ (n : ℕ). min never (n + c.toll_at.result)) c.saturating_sub-else-i-lt56.ensures in
    subst (IsLeast c.args.ground.now.base.side c.args.ground.now.base.frozen h (ends_on h (seen_by c.args.ground.now.base.side c.args.i)) (loss_in p c.args.ground.now.base.frozen R c.args.ground.now.base.side h))
    (sym (e ∙ ap (λ (n : ℕ). min never ((96 - slice_index c.args.ground.now.most_promoted f) + n)) c.toll_at.ensures))
    (loss-last p c.args.ground.now.base.frozen R c.args.ground.now.base.side h ground.base.known (home-inside c.args.ground.now.base.side c.args.f c.requires.file) c.args.i _ _ _ c.if-i-lt56.false c.requires.inside
    (ground.most_promoted f low ∙ ap (λ (n : ℕ). most_earned p c.args.ground.now.base.frozen c.args.ground.now.base.side (comes_promoted R c.args.ground.now.base.side (seen_by c.args.ground.now.base.side n))) back) (ground.base.reaches c.args.f _ c.requires.file out c.args.i c.requires.inside))
