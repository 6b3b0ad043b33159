use Rattle.std.proofs.Common.{◌≡◌, ◌<◌, ◌≤◌, ℕ, Bool, List, length, slice_index}
use Rattle.board_base.specs.Board.{array_of, at, home_of}
use Rattle.capture_prices.specs.Prices.{PriceList}
use Rattle.balance_rule.specs.Costs.{never}
use Rattle.balance_rule.specs.Grounds.{IsGround}
use Rattle.ledger_facts.specs.Accounts.{gone_if}
use Rattle.ledger_rule.proofs.tables.gone_row_if.Given as goal

abbrev pub invariant-loop-j : goal.invariant-loop-j
invariant-loop-j l = record {
  size : length l.row ≡ 16;
  small : (k : ℕ) → k < l.j → slice_index l.row k ≤ never;
  done : (o : List Bool) (p : PriceList) → IsGround o p l.ground → (k : ℕ) → k < l.j → slice_index l.row k ≡ gone_if l.supposition p l.ground.frozen l.ground.side (at (array_of o) (home_of l.ground.side k)) (home_of l.ground.side k);
}
