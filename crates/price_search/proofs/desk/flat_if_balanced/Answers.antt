use Rattle.std.proofs.Common.{◌∙◌, false, refl, subst, sym}
use Rattle.std.proofs.lemmas.Bool.{both_ways}
use Rattle.std.proofs.lemmas.Option.{IfSome_then}
use Rattle.capture_prices.specs.Prices.{PriceList}
use Rattle.balance_rule.specs.Balance.{BalanceSupports}
use Rattle.price_search.proofs.LowPrices.{flat-low}
use Rattle.price_search.proofs.desk.flat_if_balanced.Goals as goal

pub returns-in-None-clause-low : goal.returns-in-None-clause-low
returns-in-None-clause-low c =
    IfSome_then c.if_balanced-in-None.result c.if_balanced-in-None.ensures.same (λ p same.
    flat-low c.args.query.now c.args.set p c.args.payers (same ∙ c.flat_prices-flat.ensures) (λ supports. both_ways false refl (c.in-None.ensures.all (subst (λ (x : PriceList). BalanceSupports c.args.query.now c.args.set x) (sym c.once_prices.ensures) supports))))
