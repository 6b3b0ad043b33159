use Rattle.std.proofs.Common.{◌<◌, ℕ}
use Rattle.std.specs.Prelude.{IsTrue}
use Rattle.board_base.specs.Board.{at, is_in}
use Rattle.ledger_search.specs.Questions.{is_man}
use Rattle.ledger_lines.proofs.among.are_men.Given as goal

abbrev pub invariant-loop-i : goal.invariant-loop-i
invariant-loop-i l = (s : ℕ) → s < l.i → IsTrue (is_in l.set s) → IsTrue (is_man (at l.query.board s))
