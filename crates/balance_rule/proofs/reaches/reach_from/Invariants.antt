use Rattle.std.specs.Prelude.{IsTrue, ◌*◌}
use Rattle.capture_prices.specs.Prices.{PriceList, are_prices}
use Rattle.balance_rule.specs.NextWays.{IsReachTo}
use Rattle.balance_rule.specs.Tariffs.{IsTariff}
use Rattle.balance_rule.proofs.reaches.reach_from.Given as goal

abbrev pub invariant-loop-rank : goal.invariant-loop-rank
invariant-loop-rank l = (p : PriceList) → IsTrue (are_prices p) → IsTariff p l.fn.frozen l.fn.side l.tariff → IsReachTo p l.fn.frozen l.fn.side l.fn.home l.reach (8 * l.rank)
