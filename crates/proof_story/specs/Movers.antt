-- The signs of a move.
use Rattle.std.specs.Prelude.{ℕ, List, [], ◌∷◌, ◌++◌, Option, Some, None}
use Rattle.board_base.specs.declared.men.Kind.{Kind}
use Rattle.board_base.specs.declared.men.Man.{Man}
use Rattle.prose_words.specs.Words.{initial, place_initial}

-- the letter of the man who made the move that ends on this place; a pawn that was promoted has none
abbrev pub mover_initial : Option Man → Option Kind → List ℕ
mover_initial place None = place_initial place
mover_initial place (Some k) = []

-- what a pawn became, as in `=Q`
abbrev pub became : Option Kind → List ℕ
became None = []
became (Some k) = 61 ∷ initial k
