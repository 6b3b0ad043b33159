use Rattle.std.proofs.Common.{◌≡◌, ◌+◌, ◌<◌, ℕ, false, IsTrue, length, slice_index_or}
use Rattle.board_base.specs.Board.{is_in}
use Rattle.capture_prices.specs.Prices.{PriceList, are_prices}
use Rattle.balance_rule.specs.Tariffs.{IsTariff}
use Rattle.balance_rule.specs.declared.reaches.Reach.{Reach}
use Rattle.balance_rule.specs.LeastWays.{IsReach, seen_by}
use Rattle.balance_rule.proofs.reaches.reaches_of.Given as goal

abbrev pub invariant-loop-f : goal.invariant-loop-f
invariant-loop-f l = record {
  size : length l.reaches ≡ 8;
  done : (p : PriceList) → IsTrue (are_prices p) → IsTariff p l.frozen l.side l.tariff → (f : ℕ) (none : Reach) → f < l.f → is_in l.frozen (seen_by l.side (8 + f)) ≡ false → IsReach p l.frozen l.side (seen_by l.side (8 + f)) (slice_index_or l.reaches f none);
}
