use Rattle.std.proofs.Common.{◌≡◌, ◌≤◌, Bool, List, length, map, take}
use Rattle.std.specs.List.{filter}
use Rattle.assignment.specs.Tables.{IsTable}
use Rattle.board_base.specs.Board.{array_of}
use Rattle.capture_prices.specs.Prices.{PriceList}
use Rattle.balance_rule.specs.Costs.{never}
use Rattle.sketch_grounds.specs.Account.{figure_row, is_figure_of}
use Rattle.sketch_grounds.specs.Zones.{Room}
use Rattle.sketch_account.specs.Counting.{counted_as}
use Rattle.sketch_account.specs.Grounds.{IsGround}
use Rattle.sketch_account.proofs.tables.figure_rows.Given as goal

abbrev pub invariant-loop-i : goal.invariant-loop-i
invariant-loop-i l = record {
  few : length l.rows.items ≤ l.fn.begun;
  number : length l.rows.items ≡ length (filter (is_figure_of l.ground.base.side) (take l.i (counted_as l.fn.against l.sketch)));
  table : IsTable l.rows.items 16 never;
  made : (o : List Bool) (p : PriceList) (R : Room) → IsGround o p R l.ground → l.rows.items ≡ map (figure_row p l.ground.base.frozen R l.ground.base.side (array_of o)) (filter (is_figure_of l.ground.base.side) (take l.i (counted_as l.fn.against l.sketch)));
}
