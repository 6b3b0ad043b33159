use Rattle.std.proofs.Common.{◌≡◌, ◌<◌, ℕ, cond, length, slice_index}
use Rattle.board_base.specs.Board.{is_in}
use Rattle.capture_prices.specs.Prices.{class_of}
use Rattle.balance_rule.specs.LeastWays.{seen_by}
use Rattle.balance_rule.proofs.tariffs.earned_seen.Given as goal

abbrev pub invariant-loop-i : goal.invariant-loop-i
invariant-loop-i l = record {
  size : length l.seen ≡ 64;
  done : (j : ℕ) → j < l.i → slice_index l.seen j ≡ cond (is_in l.exposed (seen_by l.side j)) (slice_index l.takes (class_of (seen_by l.side j))) 0;
}
