use Rattle.std.proofs.Common.{◌≡◌, ◌≤◌}
use Rattle.std.specs.List.{count_by, range_with_len}
use Rattle.board_base.specs.Board.{at, is_of}
use Rattle.balance_rule.proofs.tables.men_on.Given as goal

abbrev pub invariant-loop-i : goal.invariant-loop-i
invariant-loop-i l = record {
  small : l.n ≤ l.i;
  number : l.n ≡ count_by (λ s. is_of l.side (at l.board s)) (range_with_len 0 l.i);
}
