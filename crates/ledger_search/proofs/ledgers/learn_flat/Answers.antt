use Rattle.std.proofs.Common.{Bool, List, subst, sym}
use Rattle.capture_prices.specs.Prices.{PriceList}
use Rattle.price_search.specs.FlatPrices.{flat_prices}
use Rattle.ledger_facts.specs.Refuted.{IsRefuted}
use Rattle.ledger_search.specs.Ledgers.{HasAll}
use Rattle.ledger_search.proofs.Grown.{grows, has-ledger, has-none}
use Rattle.ledger_search.proofs.ledgers.learn_flat.Goals as goal

pub returns-in-Some-clause-grows : goal.returns-in-Some-clause-grows
returns-in-Some-clause-grows c = grows c.args.query.now c.in-Some.account.set c.in-Some.account.prices c.args.ledger.now c.learn.result c.learn.ensures

pub returns-in-Some-clause-all : goal.returns-in-Some-clause-all
returns-in-Some-clause-all c =
    let q = c.args.query.now in
    let l = c.learn.result in
    let is = c.in-Some.ensures.kept in
    let all = has-ledger q c.in-Some.account.set c.in-Some.account.prices c.args.ledger.now l c.learn.ensures in
    subst (λ (p : PriceList). HasAll q c.args.set p l) c.flat_prices.ensures (subst (λ (p : PriceList). HasAll q c.args.set p l) is.at_prices (subst (λ (set : List Bool). HasAll q set c.in-Some.account.prices l) is.beside all))

pub returns-in-None-clause-all : goal.returns-in-None-clause-all
returns-in-None-clause-all c =
    let q = c.args.query.now in
    has-none q c.args.set (flat_prices c.args.payers) (λ x it. c.in-None.ensures.none x (subst (λ (p : PriceList). IsRefuted x q c.args.set p) (sym c.flat_prices.ensures) it)) c.args.ledger.now
