use Rattle.std.proofs.Common.{◌≡◌}
use Rattle.ledger_lines.specs.Known.{is_piece_home_of}
use Rattle.ledger_lines.proofs.Counted.{count_first}
use Rattle.ledger_lines.proofs.among.piece_homes.Given as goal

abbrev pub invariant-loop-i : goal.invariant-loop-i
invariant-loop-i l = l.n ≡ count_first (is_piece_home_of l.query l.ledger l.set) l.i
