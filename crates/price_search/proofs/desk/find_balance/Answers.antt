use Rattle.std.proofs.Common.{◌≡◌, List, subst}
use Rattle.std.specs.Prelude.{Bool}
use Rattle.query_base.specs.Asked.{Asked}
use Rattle.cage_rules.proofs.SetAlgebra.{same-set}
use Rattle.balance_rule.specs.Balance.{BalanceSupports}
use Rattle.price_search.specs.FlatPrices.{flat_prices}
use Rattle.price_search.proofs.desk.find_balance.Goals as goal

pub returns-in-None-clause-flat : goal.returns-in-None-clause-flat
returns-in-None-clause-flat c e =
    let q : Asked = c.args.query.now in
    let own = e.supports.settled in
    let found = c.greatest_as_array-set.ensures in
    let same : e.set ≡ c.greatest_as_array-set.result = same-set e.set c.greatest_as_array-set.result own.whole c.is_whole.ensures (found.greatest e.set own.frozen own.as_array) (e.greatest c.greatest_as_array-set.result found.frozen found.as_array) in
    c.in-None.ensures.flat e.payers (subst (λ (set : List Bool). BalanceSupports q set (flat_prices e.payers)) same e.supports)
