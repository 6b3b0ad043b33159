use Rattle.std.proofs.Common.{◌≡◌, ◌+◌, ◌*◌, ◌≤◌, drop}
use Rattle.assignment.specs.Assignments.{assignment_cost}
use Rattle.board_base.specs.Board.{array_of}
use Rattle.balance_rule.specs.Balance.{cost_table}
use Rattle.price_search.specs.FlatGrounds.{IsFlatGround}
use Rattle.price_search.specs.FlatPrices.{flat_prices}
use Rattle.price_search.proofs.flat_grounds.cost_with.Given as goal

abbrev pub invariant-loop-i : goal.invariant-loop-i
invariant-loop-i l = record {
  small : l.cost ≤ 65535 * l.i;
  value : IsFlatGround l.kept.payers l.kept.odds l.kept.side l.kept.lost → l.cost + assignment_cost (drop l.i (cost_table (flat_prices l.kept.payers) l.kept.side.frozen l.kept.side.side (array_of l.kept.odds) l.board)) (drop l.i l.homes) ≡ assignment_cost (cost_table (flat_prices l.kept.payers) l.kept.side.frozen l.kept.side.side (array_of l.kept.odds) l.board) l.homes;
}
