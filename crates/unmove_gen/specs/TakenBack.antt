-- Taking a move back.
use Rattle.std.specs.Prelude.{ℕ, cond, slice_set, Option, Some, None}
use Rattle.board_base.specs.Board.{Places, at, opponent, man}
use Rattle.board_base.specs.Play.{carried, crossed, en_passant_victim, rook_home}
use Rattle.castle_history.specs.TakenBack.{castling_back}
use Rattle.board_base.specs.declared.men.Man.{Man}
use Rattle.board_base.specs.declared.men.Kind.{Kind}
use Rattle.board_base.specs.declared.men.Kind.TheVariants.{Pawn}
use Rattle.board_base.specs.declared.castles.Castle.{Castle}
use Rattle.board_base.specs.declared.unmoves.Unmove.{Unmove}

-- the kind of the man on the place, if there is one
abbrev pub kind_of : Option Man → Option Kind
kind_of None = None
kind_of (Some m) = Some m.kind

-- Article 3.7: what a man was before a move with this promotion: a pawn of his colour, if he was promoted
abbrev pub unpromoted : Option Kind → Option Man → Option Man
unpromoted None place = place
unpromoted (Some k) None = None
unpromoted (Some k) (Some m) = Some (record m { kind = Pawn })

-- Article 3.1: what the man on the place captured: a man of this kind, if one is given, of the other colour
abbrev pub captured_by : Option Man → Option Kind → Option Man
captured_by None kind = None
captured_by (Some m) None = None
captured_by (Some m) (Some k) = man (opponent m.colour) k

-- Articles 3.1 and 3.7: where the captured man stood: on the target, or beside the origin if he was captured en passant
abbrev pub capture_square : Unmove → ℕ
capture_square u = cond u.ep (en_passant_victim u.mv) u.mv.to

-- Article 3.8: the rook of a castling goes back from the square that the king crossed to its home
abbrev pub rook_back : Option Castle → Places → Places
rook_back None board = board
rook_back (Some x) board = carried (λ place. place) board (crossed x) (rook_home x)

-- The board before the unmove's move: the rook goes back if the move was a castling, the man on the target goes back to the origin,
-- and what he captured stands again where it stood.
unfoldable pub taken_back : Places → Unmove → Places
taken_back board u =
    slice_set (carried (unpromoted u.mv.promo) (rook_back (castling_back board u.mv) board) u.mv.to u.mv.from) (capture_square u) (captured_by (at board u.mv.to) u.captured)
