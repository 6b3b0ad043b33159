use Rattle.std.proofs.Common.{◌≡◌, ℕ}
use Rattle.board_base.specs.Board.{at, is_a}
use Rattle.board_base.specs.declared.men.Kind.TheVariants.{Pawn}
use Rattle.ledger_search.proofs.Found.{Found}
use Rattle.ledger_lines.proofs.knowing.first_squares.Given as goal

abbrev pub invariant-loop-i : goal.invariant-loop-i
invariant-loop-i l = Found (λ (h : ℕ). is_a Pawn (at l.first h) ≡ l.pawns) l.squares l.i
