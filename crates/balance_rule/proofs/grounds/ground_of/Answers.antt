use Rattle.std.proofs.Common.{◌≡◌, ◌+◌, Bool, List, [], slice_index_or, ap, ◌∙◌}
use Rattle.board_base.specs.Board.{array_of, is_in, opponent}
use Rattle.query_base.specs.Asked.{Asked}
use Rattle.capture_prices.specs.Prices.{takes}
use Rattle.balance_rule.specs.Costs.{most_earned}
use Rattle.balance_rule.specs.Grounds.{comes_promoted}
use Rattle.balance_rule.specs.LeastWays.{seen_by}
use Rattle.balance_rule.proofs.Earned.{greatest-same}
use Rattle.balance_rule.proofs.Grounded.{some-promoted}
use Rattle.balance_rule.proofs.grounds.ground_of.Goals as goal

pub returns-clause-ground : goal.returns-clause-ground
returns-clause-ground c =
    let enemy : c.takes-enemy.result.now ≡ takes c.args.prices.now (opponent c.args.side) = c.takes-enemy.ensures.value ∙ ap (takes c.args.prices.now) c.other.ensures in
    record {
      known = c.takes-enemy.ensures.range;
      first = c.array_of.ensures ∙ ap (λ (q : Asked). array_of q.odds) c.query.view_is;
      tariff = c.tariff_of-tariff.ensures c.args.frozen c.exposed-exposed.ensures;
      reaches = λ f none low out. c.reaches_of.ensures c.args.prices.now c.takes-enemy.ensures.range (c.tariff_of-tariff.ensures c.args.frozen c.exposed-exposed.ensures) f none low out;
      regions = c.regions_of-regions.ensures;
      knights = c.promoted_of-knights.ensures;
      bishops = c.promoted_of-bishops.ensures;
      rooks = c.promoted_of-rooks.ensures;
      queens = c.promoted_of-queens.ensures;
      exposed = c.exposed-exposed.ensures;
      promoted = λ f s low inside.
          c.some_of-promoted.ensures f s low inside ∙ some-promoted c.args.frozen c.args.side (seen_by c.args.side (56 + f)) s _ _ _ _ (c.promoted_of-knights.ensures f low) (c.promoted_of-bishops.ensures f low) (c.promoted_of-rooks.ensures f low) (c.promoted_of-queens.ensures f low);
      most_at_home = λ f low home.
          c.earned_in_each.ensures c.args.prices.now c.args.frozen c.args.side c.exposed-exposed.ensures enemy f low
          ∙ ap (λ (l : List Bool). most_earned c.args.prices.now c.args.frozen c.args.side (is_in l)) (c.regions_of-regions.ensures f low home);
      most_promoted = λ f low.
          c.earned_in_each-2.ensures c.args.prices.now c.args.frozen c.args.side c.exposed-exposed.ensures enemy f low
          ∙ greatest-same (is_in (slice_index_or c.some_of-promoted.result f [])) (comes_promoted c.args.frozen c.args.side (seen_by c.args.side (56 + f))) _
          (λ s inside. c.some_of-promoted.ensures f s low inside ∙ some-promoted c.args.frozen c.args.side (seen_by c.args.side (56 + f)) s _ _ _ _ (c.promoted_of-knights.ensures f low) (c.promoted_of-bishops.ensures f low) (c.promoted_of-rooks.ensures f low) (c.promoted_of-queens.ensures f low));
    }
