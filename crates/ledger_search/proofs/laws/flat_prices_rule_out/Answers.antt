use Rattle.price_search.specs.FlatPrices.{flat_prices}
use Rattle.ledger_search.proofs.laws.flat_prices_rule_out.Goals as goal

pub returns : goal.returns
returns c = λ x q set h. (set, flat_prices h.0, h.1)
