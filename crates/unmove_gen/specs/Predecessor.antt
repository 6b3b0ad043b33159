-- What is asked of a game before its last move.
use Rattle.std.specs.Prelude.{ℕ, zero, suc, Bool, cond, fold, List, Option, Some, None}
use Rattle.board_base.specs.Board.{at}
use Rattle.board_base.specs.Legal.{pawn_captures_en_passant}
use Rattle.board_base.specs.Game.{board_after, turn_after, last_move}
use Rattle.board_base.specs.Rights.{Rights, with_castling}
use Rattle.castle_history.specs.TakenBack.{castling_back}
use Rattle.query_base.specs.Asked.{Asked}
use Rattle.unmove_gen.specs.TakenBack.{kind_of}
use Rattle.unmove_gen.specs.Listed.{answered, before, mover}
use Rattle.board_base.specs.declared.men.Kind.TheVariants.{Pawn}
use Rattle.board_base.specs.declared.moves.Move.{Move}
use Rattle.board_base.specs.declared.castles.Castle.{Castle}
use Rattle.board_base.specs.declared.unmoves.Unmove.{Unmove}

-- the set with this castling added, if one is given
abbrev pub with_castle : Rights → Option Castle → Rights
with_castle held None = held
with_castle held (Some x) = with_castling held x

-- the clock before the last move: one less, and of a clock of 0 nothing is known
abbrev pub clock_before : Option ℕ → Option ℕ
clock_before None = None
clock_before (Some zero) = None
clock_before (Some (suc n)) = Some n

-- The query with the unmove taken back: the other side is to move, the odds are the same, the castling that it takes back is held too
-- (article 3.8), the last move was the double step that it answered, if it is en passant (article 3.7), no move is barred, and a clock
-- above 0 was one less (article 9.3).
abbrev pub predecessor : Asked → Unmove → Asked
predecessor q u = record {
  board = before q u;
  turn = mover q;
  odds = q.odds;
  held = with_castle q.held (castling_back q.board u.mv);
  only = answered u (mover q);
  barred = None;
  clock = clock_before q.clock;
}

-- what is asked before these unmoves, the last move of a game first
abbrev pub left_by : Asked → List Unmove → Asked
left_by q steps = fold predecessor q steps

-- Article 3.7: after this game at the odds o the move is a capture en passant
abbrev pub is_en_passant_after : List Bool → List Move → Move → Bool
is_en_passant_after o g m = pawn_captures_en_passant (board_after o g) (turn_after g) (last_move g) m

-- the move with the kind that it captures after this game at the odds o, marked en passant if and only if it is such a capture
abbrev pub unmove_after : List Bool → List Move → Move → Unmove
unmove_after o g m = record {
  mv = m;
  captured = cond (is_en_passant_after o g m) (Some Pawn) (kind_of (at (board_after o g) m.to));
  ep = is_en_passant_after o g m;
}
