use Rattle.board_base.specs.Board.{at, is_the}
use Rattle.board_base.specs.declared.men.Kind.TheVariants.{Pawn}
use Rattle.general_lemmas.proofs.Rows.{AreMade}
use Rattle.proof_sentences.proofs.pawns.pawn_squares.Given as goal

abbrev pub invariant-loop-i : goal.invariant-loop-i
invariant-loop-i l = AreMade (λ s. is_the l.side Pawn (at l.board s)) (λ s. s) 64 8 l.i l.squares.items
