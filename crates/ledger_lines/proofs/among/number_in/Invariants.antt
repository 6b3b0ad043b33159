use Rattle.std.proofs.Common.{◌≡◌}
use Rattle.board_base.specs.Board.{is_in}
use Rattle.ledger_lines.proofs.Counted.{count_first}
use Rattle.ledger_lines.proofs.among.number_in.Given as goal

abbrev pub invariant-loop-i : goal.invariant-loop-i
invariant-loop-i l = l.n ≡ count_first (is_in l.set) l.i
