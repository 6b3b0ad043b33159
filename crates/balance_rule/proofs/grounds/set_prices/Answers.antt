use Rattle.std.proofs.Common.{◌≡◌, ◌+◌, Bool, List, [], slice_index_or, ap, ◌∙◌}
use Rattle.board_base.specs.Board.{is_in, opponent}
use Rattle.capture_prices.specs.Prices.{takes}
use Rattle.balance_rule.specs.Costs.{most_earned}
use Rattle.balance_rule.specs.Grounds.{comes_promoted}
use Rattle.balance_rule.specs.LeastWays.{seen_by}
use Rattle.balance_rule.proofs.Earned.{greatest-same}
use Rattle.balance_rule.proofs.grounds.set_prices.Goals as goal

pub returns-clause-ground : goal.returns-clause-ground
returns-clause-ground c o p old =
    let side = c.args.ground.now.side in
    let frozen = c.args.ground.now.frozen in
    let prices = c.args.prices.now in
    let enemy : c.takes-enemy.result.now ≡ takes prices (opponent side) = c.takes-enemy.ensures.value ∙ ap (takes prices) c.other.ensures in
    record {
      known = c.takes-enemy.ensures.range;
      first = old.first;
      tariff = c.tariff_of-ground.ensures frozen old.exposed;
      reaches = λ f none low out. c.reaches_of-ground.ensures prices c.takes-enemy.ensures.range (c.tariff_of-ground.ensures frozen old.exposed) f none low out;
      regions = old.regions;
      knights = old.knights;
      bishops = old.bishops;
      rooks = old.rooks;
      queens = old.queens;
      exposed = old.exposed;
      promoted = old.promoted;
      most_at_home = λ f low home.
          c.earned_in_each-ground.ensures prices frozen side old.exposed enemy f low ∙ ap (λ (l : List Bool). most_earned prices frozen side (is_in l)) (old.regions f low home);
      most_promoted = λ f low.
          c.earned_in_each-ground-2.ensures prices frozen side old.exposed enemy f low
          ∙ greatest-same (is_in (slice_index_or c.args.ground.now.promoted f [])) (comes_promoted frozen side (seen_by side (56 + f))) _ (λ s inside. old.promoted f s low inside);
    }
