-- Inner: no public clause cites this file.
-- Where a man may go, for the list of moves: lines from his square, and steps near it.
use Rattle.std.specs.Prelude.{ℕ, ◌*◌, Bool, false, ◌&&◌, ◌||◌, ◌==◌, nat_lt}
use Rattle.board_base.specs.Board.{Places, file}
use Rattle.board_base.specs.Attacks.{files_apart, ranks_apart, one_ahead, kind_attacks}
use Rattle.board_base.specs.declared.men.Colour.{Colour}
use Rattle.board_base.specs.declared.men.Kind.{Kind}
use Rattle.board_base.specs.declared.men.Kind.TheVariants.{Pawn, Knight, Bishop, Rook, Queen, King}

-- a pawn, a knight or a king may go so, whatever stands on the board
unfoldable pub may_step : Colour → Kind → ℕ → ℕ → Bool
may_step c Pawn s t = (one_ahead c s t && nat_lt (files_apart s t) 2) || ((file s == file t) && (ranks_apart s t == 2))
may_step c Knight s t = files_apart s t * ranks_apart s t == 2
may_step c King s t = nat_lt (files_apart s t) 3 && nat_lt (ranks_apart s t) 2
may_step c Bishop s t = false
may_step c Rook s t = false
may_step c Queen s t = false

-- a man may go so, as far as his own way of moving and open lines tell
unfoldable pub may_reach : Places → Colour → Kind → ℕ → ℕ → Bool
may_reach board c Pawn s t = may_step c Pawn s t
may_reach board c Knight s t = may_step c Knight s t
may_reach board c King s t = may_step c King s t
may_reach board c Bishop s t = kind_attacks board c Bishop s t
may_reach board c Rook s t = kind_attacks board c Rook s t
may_reach board c Queen s t = kind_attacks board c Queen s t
