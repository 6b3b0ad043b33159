use Rattle.std.proofs.Common.{◌≡◌, ◌<◌, ℕ, [], slice_index_or}
use Rattle.std.specs.Prelude.{IsTrue, nat_lt, true}
use Rattle.board_base.specs.Board.{array_of, is_in}
use Rattle.ledger_search.specs.Questions.{is_asked}
use Rattle.ledger_search.specs.declared.questions.Question.TheVariants.{Home}
use Rattle.ledger_lines.specs.Known.{most_aside}
use Rattle.ledger_lines.proofs.knowing.has_come_near.Given as goal

abbrev pub invariant-loop-i : goal.invariant-loop-i
invariant-loop-i l = (h : ℕ) → h < l.i → IsTrue (is_asked (Home l.s) l.query.board (array_of l.query.odds) h) → nat_lt l.number (most_aside h l.s) ≡ true → IsTrue (is_in (slice_index_or l.ledger.homes l.s []) h)
