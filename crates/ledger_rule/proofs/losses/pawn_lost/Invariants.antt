use Rattle.std.proofs.Common.{◌≡◌, ◌+◌, ◌≤◌, Bool, false, List}
use Rattle.board_base.specs.Board.{is_in}
use Rattle.capture_prices.specs.Prices.{PriceList}
use Rattle.balance_rule.specs.Costs.{never}
use Rattle.balance_rule.specs.Grounds.{IsGround}
use Rattle.balance_rule.specs.LeastWays.{IsLeast, seen_by}
use Rattle.ledger_facts.specs.Accounts.{is_lost_by, loss_as}
use Rattle.ledger_rule.proofs.Ends.{ends_before}
use Rattle.ledger_rule.proofs.losses.pawn_lost.Given as goal

abbrev pub invariant-loop-i : goal.invariant-loop-i
invariant-loop-i l = record {
  small : l.least ≤ never;
  least : (o : List Bool) (p : PriceList) → IsGround o p l.ground → is_in l.ground.frozen (seen_by l.ground.side (8 + l.f)) ≡ false → IsLeast l.ground.side l.ground.frozen (seen_by l.ground.side (8 + l.f)) (ends_before l.ground.side (seen_by l.ground.side (8 + l.f)) (is_lost_by l.promoted l.struck l.ground.frozen l.ground.side (seen_by l.ground.side (8 + l.f))) l.i) (loss_as l.struck p l.ground.frozen l.ground.side (seen_by l.ground.side (8 + l.f))) l.least;
}
