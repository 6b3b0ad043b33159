-- The positions of a game, as queries.
use Rattle.std.specs.Prelude.{cond, ◌&&◌, ◌==◌, List, Option, Some, None}
use Rattle.board_base.specs.Board.{Places, no_odds, at, is_a}
use Rattle.board_base.specs.Attacks.{ranks_apart}
use Rattle.board_base.specs.Rights.{Rights}
use Rattle.board_base.specs.Game.{board_after, turn_after, last_move, unmoved}
use Rattle.board_base.specs.declared.men.Kind.TheVariants.{Pawn}
use Rattle.board_base.specs.declared.castles.Castle.TheVariants.{WhiteShort, WhiteLong, BlackShort, BlackLong}
use Rattle.board_base.specs.declared.moves.Move.{Move}
use Rattle.query_base.specs.Asked.{Asked}

-- Article 3.8.2.1: the rights that the game still has
abbrev pub rights_after : List Move → Rights
rights_after g = record {
  white_short = unmoved no_odds g WhiteShort;
  white_long = unmoved no_odds g WhiteLong;
  black_short = unmoved no_odds g BlackShort;
  black_long = unmoved no_odds g BlackLong;
}

-- Article 3.7.2: the move that led to this board, if it took a pawn two ranks on
abbrev pub if_double : Places → Option Move → Option Move
if_double board None = None
if_double board (Some m) = cond (is_a Pawn (at board m.to) && (ranks_apart m.from m.to == 2)) (Some m) None

-- what is asked of a game without odds that comes to where this one has come: all rights that it has, and its last move if it was a
-- double step
unfoldable pub query_after : List Move → Asked
query_after g = record {
  board = board_after no_odds g;
  turn = turn_after g;
  odds = no_odds;
  held = rights_after g;
  only = if_double (board_after no_odds g) (last_move g);
  barred = None;
  clock = None;
}
