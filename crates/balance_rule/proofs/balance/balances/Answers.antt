use Rattle.std.proofs.Common.{◌≡◌, ap, arith, ◌∙◌}
use Rattle.std.proofs.lemmas.Bool.{lt-ltb, ltb-true}
use Rattle.query_base.specs.Asked.{Asked}
use Rattle.balance_rule.specs.Balance.{most_cost}
use Rattle.balance_rule.proofs.balance.balances.Goals as goal

pub returns : goal.returns
returns c =
    let most : c.most_cost.result ≡ most_cost c.args.query.now.odds c.args.prices.now = c.most_cost.ensures.value ∙ ap (λ (q : Asked). most_cost q.odds c.args.prices.now) c.query.view_is in
    let white = c.in-Some.ensures.value in
    let black = c.in-Some-side_cost.ensures.value in (
      λ yes. record {
        settled = c.is_settled.ensures.0 c.if-not-is_settled.false;
        prices = c.most_cost.ensures.known;
        white = white.0;
        black = black.0;
        above = omega (arith, most, white.1, black.1, ltb-true _ _ yes);
      },
      λ supports. lt-ltb _ _ (omega (arith, most, white.1, black.1, supports.above)),
    )
