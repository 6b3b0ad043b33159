use Rattle.std.proofs.Common.{◌≡◌, ◌<◌, ℕ, cond, not, length, slice_index}
use Rattle.board_base.specs.Board.{home_of, is_in}
use Rattle.balance_rule.specs.Costs.{never}
use Rattle.ledger_rule.proofs.changing.began_row.Given as goal

abbrev pub invariant-loop-j : goal.invariant-loop-j
invariant-loop-j l = record {
  size : length l.row ≡ 16;
  done : (k : ℕ) → k < l.j → slice_index l.row k ≡ cond (not (is_in l.homes (home_of l.side k))) never (slice_index l.plain k);
}
