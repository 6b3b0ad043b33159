use Rattle.std.proofs.Common.{◌≡◌, ◌+◌, ◌≤◌, Bool, false, List}
use Rattle.board_base.specs.Board.{is_in}
use Rattle.capture_prices.specs.Prices.{PriceList}
use Rattle.balance_rule.specs.Costs.{never}
use Rattle.sketch_grounds.specs.Limits.{loss_in}
use Rattle.sketch_grounds.specs.Zones.{Room}
use Rattle.sketch_account.specs.Grounds.{IsGround}
use Rattle.balance_rule.specs.LeastWays.{IsLeast, seen_by}
use Rattle.std.specs.Prelude.{nat_lt}
use Rattle.men_fates.specs.Ways.{way_end}
use Rattle.sketch_account.proofs.losses.pawn_lost.Given as goal

abbrev pub invariant-loop-i : goal.invariant-loop-i
invariant-loop-i l = record {
  small : l.least ≤ never;
  least : (o : List Bool) (p : PriceList) (R : Room) → IsGround o p R l.ground → is_in l.ground.base.frozen (seen_by l.ground.base.side (8 + l.f)) ≡ false → IsLeast l.ground.base.side l.ground.base.frozen (seen_by l.ground.base.side (8 + l.f)) (λ way. nat_lt (seen_by l.ground.base.side (way_end (seen_by l.ground.base.side (8 + l.f)) way)) l.i) (loss_in p l.ground.base.frozen R l.ground.base.side (seen_by l.ground.base.side (8 + l.f))) l.least;
}
