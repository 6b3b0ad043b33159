use Rattle.std.proofs.Common.{subst}
use Rattle.std.proofs.Math.Logic.{∥∥₁_map}
use Rattle.capture_prices.specs.Prices.{PriceList}
use Rattle.balance_rule.specs.Grounds.{IsGround}
use Rattle.price_search.proofs.flat_grounds.FlatSide.at.Goals as goal

pub invariant_of-result-clause-known : goal.invariant_of-result-clause-known
invariant_of-result-clause-known c =
    ∥∥₁_map c.args.self.now.known (λ kept.
    let ground = subst (λ (p : PriceList). IsGround c.args.self.now.odds p c.set_prices.new.ground) c.flat_prices.ensures (c.set_prices.ensures.ground _ _ kept.known) in
    record {
      known = ground;
      gone_is = c.gone_row-lost.ensures.value _ _ ground;
    })
