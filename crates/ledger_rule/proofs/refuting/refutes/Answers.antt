use Rattle.std.proofs.Common.{◌≡◌, ap, arith, ◌∙◌}
use Rattle.std.proofs.lemmas.Bool.{lt-ltb, ltb-true}
use Rattle.board_base.specs.declared.men.Colour.TheVariants.{White, Black}
use Rattle.query_base.specs.Asked.{Asked}
use Rattle.capture_prices.specs.Prices.{PriceList}
use Rattle.balance_rule.specs.Balance.{most_cost}
use Rattle.ledger_facts.specs.Accounts.{side_cost_if}
use Rattle.ledger_rule.proofs.refuting.refutes.Goals as goal

pub returns : goal.returns
returns c =
    let q : Asked = c.args.query.now in
    let most : c.most_cost-most.result ≡ most_cost q.odds c.args.prices.now = c.most_cost-most.ensures.value ∙ ap (λ (r : Asked). most_cost r.odds c.args.prices.now) c.query.view_is in
    let whites = c.in-Some.ensures in
    let white = c.in-Some-side_cost.ensures.value in
    let blacks = c.in-Some-list_for.ensures in
    let black = c.in-Some-side_cost-2.ensures.value in
    let white_same = ap (λ (p : PriceList). side_cost_if c.args.supposition.now q.odds q.board p c.args.set White) whites.1 in
    let black_same = ap (λ (p : PriceList). side_cost_if c.args.supposition.now q.odds q.board p c.args.set Black) blacks.1 in (
      λ yes. record {
        settled = c.is_settled.ensures.0 c.if-not-is_settled.false;
        white_prices = whites.0;
        black_prices = blacks.0;
        white = white.0;
        black = black.0;
        above = omega (arith, most, white.1, black.1, white_same, black_same, c.paid_over.ensures.value, c.earned_over.ensures.value, c.saturating_sub.ensures, ltb-true _ _ yes);
      },
      λ it. lt-ltb _ _ (omega (arith, most, white.1, black.1, white_same, black_same, c.paid_over.ensures.value, c.earned_over.ensures.value, c.saturating_sub.ensures, it.above)),
    )
