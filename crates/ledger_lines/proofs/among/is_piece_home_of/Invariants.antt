use Rattle.std.proofs.Common.{◌≡◌, ℕ}
use Rattle.std.specs.Prelude.{◌&&◌}
use Rattle.std.specs.List.{list_any, range_with_len}
use Rattle.board_base.specs.Board.{is_in}
use Rattle.ledger_lines.specs.Known.{is_piece_home}
use Rattle.ledger_lines.proofs.among.is_piece_home_of.Given as goal

abbrev pub invariant-loop-i : goal.invariant-loop-i
invariant-loop-i l = l.found ≡ list_any (λ (s : ℕ). is_in l.set s && is_piece_home l.query l.ledger s l.h) (range_with_len 0 l.i)
