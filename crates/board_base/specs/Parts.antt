-- Inner: no public clause cites this file.
-- Parts of play and of legality, each by its cases.
use Rattle.std.specs.Prelude.{ℕ, Bool, false, Option, Some, None}
use Rattle.board_base.specs.Board.{Places}
use Rattle.board_base.specs.Play.{promoted, moved, goes_en_passant, double_over}
use Rattle.board_base.specs.Legal.{may_castle}
use Rattle.board_base.specs.declared.men.Colour.{Colour}
use Rattle.board_base.specs.declared.moves.Move.{Move}
use Rattle.board_base.specs.declared.castles.Castle.{Castle}

-- the board after the move, which is this castling or none
abbrev pub played_as : Places → Move → Option Castle → Places
played_as board m castle = moved (promoted m.promo) m castle (goes_en_passant board m) board

-- the move is a castling, which c may play
abbrev pub castles_as : Places → Colour → (Castle → Bool) → Option Castle → Bool
castles_as board c rights castle = elim castle [ None ↦ false | Some x ↦ may_castle board c rights x ]

-- the double step over the target of a capture en passant by this colour
abbrev pub double_step : Move → Colour → Move
double_step m c = double_over m.to c
