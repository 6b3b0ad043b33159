-- What a board tells of a capture en passant.
use Rattle.std.specs.Prelude.{Bool, false, ◌&&◌, not, Option, Some, None}
use Rattle.board_base.specs.Board.{Places, at, is_empty, is_the, opponent}
use Rattle.board_base.specs.Play.{play, double_of}
use Rattle.board_base.specs.Legal.{in_check}
use Rattle.board_base.specs.declared.men.Colour.{Colour}
use Rattle.board_base.specs.declared.men.Kind.TheVariants.{Pawn}
use Rattle.board_base.specs.declared.moves.Move.{Move}

-- the men stand as after this double step: a pawn of c on the capture's origin, none on its target, the pawn that made the double
-- step on its target, and none where it came from
abbrev pub stand_after : Places → Colour → Move → Move → Bool
stand_after board c m d =
    is_the c Pawn (at board m.from) && is_empty (at board m.to) && is_the (opponent c) Pawn (at board d.to) && is_empty (at board d.from)

-- the capture answers this double step on the board, and leaves no king of c attacked (article 3.9.2)
abbrev pub fits_after : Places → Colour → Move → Option Move → Bool
fits_after board c m None = false
fits_after board c m (Some d) = stand_after board c m d && not (in_check (play board m) c)

-- Article 3.7.3.1: the move is a capture en passant by c on this board, if the last move was the double step that it answers
unfoldable pub ep_fits : Places → Colour → Move → Bool
ep_fits board c m = fits_after board c m (double_of m c)
