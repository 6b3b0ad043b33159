use Rattle.std.proofs.Common.{◌<◌, ℕ}
use Rattle.std.specs.Prelude.{IsTrue}
use Rattle.board_base.specs.Board.{array_of, is_in}
use Rattle.ledger_search.specs.Questions.{is_asked}
use Rattle.ledger_search.proofs.contradictions.are_all_denied.Given as goal

abbrev pub invariant-loop-i : goal.invariant-loop-i
invariant-loop-i l = (h : ℕ) → h < l.i → IsTrue (is_asked l.question l.query.board (array_of l.query.odds) h) → IsTrue (is_in l.found h)
