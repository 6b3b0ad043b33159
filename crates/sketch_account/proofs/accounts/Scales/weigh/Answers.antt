use Rattle.std.proofs.Common.{◌≡◌, ◌+◌, List, false, refl, ap, ◌∙◌}
use Rattle.std.proofs.lemmas.Bool.{both_ways, lt-ltb, ltb-true}
use Rattle.balance_rule.specs.Balance.{most_cost}
use Rattle.sketch_grounds.specs.Account.{Counted}
use Rattle.sketch_account.specs.Basis.{Basis}
use Rattle.sketch_account.specs.Counting.{counted_as}
use Rattle.sketch_account.proofs.Weighed.{above-tells, above-told}
use Rattle.sketch_account.proofs.accounts.Scales.weigh.Goals as goal

pub returns-clause-above : goal.returns-clause-above
returns-clause-above c =
    let b : Basis = c.args.self.now in
    let xs : List Counted = counted_as c.args.against c.args.sketch.now in
    let most : c.most_cost-most.result ≡ most_cost b.odds b.prices = c.most_cost-most.ensures.value ∙ ap (λ (y : Basis). most_cost y.odds y.prices) c.self.view_is in
    let w = c.in-Some.ensures.value in
    let d = c.in-Some-side_cost.ensures.value in (
      λ h. above-told b xs c.most_cost-most.result c.in-Some.white c.in-Some-side_cost.black most w d (ltb-true c.most_cost-most.result (c.in-Some.white + c.in-Some-side_cost.black) h),
      λ above. lt-ltb c.most_cost-most.result (c.in-Some.white + c.in-Some-side_cost.black) (above-tells b xs c.most_cost-most.result c.in-Some.white c.in-Some-side_cost.black most w.1 d.1 above),
    )

pub returns-in_default-clause-above : goal.returns-in_default-clause-above
returns-in_default-clause-above c = (
  λ h. absurd (both_ways false refl h),
  λ above. absurd (c.in_default.ensures.value above.white),
)

pub returns-in_default-side_cost-clause-above : goal.returns-in_default-side_cost-clause-above
returns-in_default-side_cost-clause-above c = (
  λ h. absurd (both_ways false refl h),
  λ above. absurd (c.in_default-side_cost.ensures.value above.black),
)
