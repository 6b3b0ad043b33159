use Rattle.std.proofs.Common.{◌≡◌, ◌<◌, ◌≤◌, ℕ, Bool, List, length, slice_index}
use Rattle.board_base.specs.Board.{array_of, at, home_of}
use Rattle.capture_prices.specs.Prices.{PriceList}
use Rattle.balance_rule.specs.Costs.{never}
use Rattle.sketch_grounds.specs.Limits.{lost}
use Rattle.sketch_grounds.specs.Zones.{Room}
use Rattle.sketch_account.specs.Grounds.{IsGround}
use Rattle.sketch_account.proofs.losses.lost_row.Given as goal

abbrev pub invariant-loop-j : goal.invariant-loop-j
invariant-loop-j l = record {
  size : length l.row ≡ 16;
  small : (k : ℕ) → k < l.j → slice_index l.row k ≤ never;
  done : (o : List Bool) (p : PriceList) (R : Room) → IsGround o p R l.ground → (k : ℕ) → k < l.j → slice_index l.row k ≡ lost p l.ground.base.frozen R l.ground.base.side (at (array_of o) (home_of l.ground.base.side k)) (home_of l.ground.base.side k);
}
