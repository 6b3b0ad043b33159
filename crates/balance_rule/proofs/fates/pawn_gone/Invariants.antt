use Rattle.std.proofs.Common.{◌≡◌, ◌+◌, ◌≤◌, Bool, false, List}
use Rattle.board_base.specs.Board.{is_in}
use Rattle.capture_prices.specs.Prices.{PriceList}
use Rattle.balance_rule.specs.Costs.{loss_cost, never}
use Rattle.balance_rule.specs.Grounds.{IsGround}
use Rattle.balance_rule.specs.LeastWays.{IsLeast, seen_by}
use Rattle.std.specs.Prelude.{nat_lt}
use Rattle.men_fates.specs.Ways.{way_end}
use Rattle.balance_rule.proofs.fates.pawn_gone.Given as goal

abbrev pub invariant-loop-i : goal.invariant-loop-i
invariant-loop-i l = record {
  small : l.least ≤ never;
  least : (o : List Bool) (p : PriceList) → IsGround o p l.ground → is_in l.ground.frozen (seen_by l.ground.side (8 + l.f)) ≡ false → IsLeast l.ground.side l.ground.frozen (seen_by l.ground.side (8 + l.f)) (λ way. nat_lt (seen_by l.ground.side (way_end (seen_by l.ground.side (8 + l.f)) way)) l.i) (loss_cost p l.ground.frozen l.ground.side (seen_by l.ground.side (8 + l.f))) l.least;
}
