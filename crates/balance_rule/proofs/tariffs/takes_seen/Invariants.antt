use Rattle.std.proofs.Common.{◌≡◌, ◌<◌, ℕ, length, slice_index}
use Rattle.capture_prices.specs.Prices.{class_of}
use Rattle.balance_rule.specs.LeastWays.{seen_by}
use Rattle.balance_rule.proofs.tariffs.takes_seen.Given as goal

abbrev pub invariant-loop-i : goal.invariant-loop-i
invariant-loop-i l = record {
  size : length l.seen ≡ 64;
  done : (j : ℕ) → j < l.i → slice_index l.seen j ≡ slice_index l.takes (class_of (seen_by l.side j));
}
