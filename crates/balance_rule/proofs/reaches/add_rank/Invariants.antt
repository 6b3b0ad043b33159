use Rattle.std.specs.Prelude.{IsTrue, ◌+◌, ◌*◌}
use Rattle.capture_prices.specs.Prices.{PriceList, are_prices}
use Rattle.balance_rule.specs.NextWays.{IsReachTo}
use Rattle.balance_rule.specs.Tariffs.{IsTariff}
use Rattle.balance_rule.proofs.reaches.add_rank.Given as goal

abbrev pub invariant-loop-file : goal.invariant-loop-file
invariant-loop-file l =
    (p : PriceList) → IsTrue (are_prices p) → IsTariff p l.fn.frozen l.fn.side l.tariff → IsReachTo p l.fn.frozen l.fn.side l.fn.home l.fn.reach (8 * l.fn.rank) → IsReachTo p l.fn.frozen l.fn.side l.fn.home l.reach (8 * l.fn.rank + l.file)
