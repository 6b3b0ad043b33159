use Rattle.std.proofs.Common.{◌<◌, ℕ}
use Rattle.std.specs.Prelude.{IsTrue}
use Rattle.board_base.specs.Board.{is_in}
use Rattle.ledger_lines.proofs.confined.are_within.Given as goal

abbrev pub invariant-loop-i : goal.invariant-loop-i
invariant-loop-i l = (s : ℕ) → s < l.i → IsTrue (is_in l.inner s) → IsTrue (is_in l.outer s)
