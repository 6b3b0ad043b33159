use Rattle.std.proofs.Common.{◌≤◌, Bool, List, length}
use Rattle.assignment.specs.Tables.{IsTable}
use Rattle.board_base.specs.Board.{array_of, at, is_of}
use Rattle.capture_prices.specs.Prices.{PriceList}
use Rattle.general_lemmas.proofs.Rows.{AreMade}
use Rattle.ledger_facts.specs.Accounts.{stand_row_if}
use Rattle.balance_rule.specs.Costs.{never}
use Rattle.balance_rule.specs.Grounds.{IsGround}
use Rattle.ledger_rule.proofs.tables.stand_rows.Given as goal

abbrev pub invariant-loop-i : goal.invariant-loop-i
invariant-loop-i l = record {
  size : length l.rows.items ≤ l.fn.begun;
  table : IsTable l.rows.items 16 never;
  made : (o : List Bool) (p : PriceList) → IsGround o p l.ground → AreMade (λ s. is_of l.ground.side (at l.board s)) (stand_row_if l.supposition p l.ground.frozen l.ground.side (array_of o) l.board) 64 l.fn.begun l.i l.rows.items;
}
