use Rattle.std.proofs.Common.{◌≡◌, ℕ}
use Rattle.board_base.specs.Board.{at, is_a}
use Rattle.board_base.specs.declared.men.Kind.TheVariants.{Pawn}
use Rattle.ledger_search.proofs.Found.{found-none}
use Rattle.ledger_lines.proofs.knowing.first_squares.Goals as goal

pub loop-i-init : goal.loop-i-init
loop-i-init c = found-none (λ (h : ℕ). is_a Pawn (at c.args.first.now h) ≡ c.args.pawns) _ c.from_bits-squares.ensures.squares
