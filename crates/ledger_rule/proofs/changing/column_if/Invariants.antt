use Rattle.std.proofs.Common.{◌≡◌, ◌<◌, ℕ, Bool, List, length, slice_index}
use Rattle.board_base.specs.Board.{array_of}
use Rattle.board_base.specs.declared.men.Colour.{Colour}
use Rattle.assignment.specs.Tables.{cost_at}
use Rattle.capture_prices.specs.Prices.{PriceList}
use Rattle.ledger_facts.specs.Accounts.{cost_table_if}
use Rattle.ledger_rule.specs.Kept.{IsSide}
use Rattle.ledger_rule.proofs.changing.column_if.Given as goal

abbrev pub invariant-loop-r : goal.invariant-loop-r
invariant-loop-r l = record {
  size : length l.column ≡ 16;
  done : (o : List Bool) (p : PriceList) (set : List Bool) (c : Colour) → IsSide o l.board p set c l.side → (k : ℕ) → k < l.r → slice_index l.column k ≡ cost_at (cost_table_if l.supposition p set c (array_of o) l.board) k l.j;
}
