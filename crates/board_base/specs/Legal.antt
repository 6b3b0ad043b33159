-- Which moves are legal: on a board, for the side to move, with these rights and this last move.
use Rattle.std.specs.Prelude.{ℕ, Bool, true, false, ◌&&◌, ◌||◌, not, ◌==◌, nat_lt, Option, Some, None}
use Rattle.std.specs.List.{list_any, range_with_len}
use Rattle.board_base.specs.Board.{Places, at, is_empty, is_of, is_a, is_the, same_kind, same_colour, opponent, file, rank}
use Rattle.board_base.specs.Attacks.{attacks, attacks_from, files_apart, ranks_apart, one_ahead, is_open}
use Rattle.board_base.specs.Play.{play, side, king_home, rook_home, king_target, crossed, castling, double_of}
use Rattle.board_base.specs.declared.men.Colour.{Colour}
use Rattle.board_base.specs.declared.men.Colour.TheVariants.{White, Black}
use Rattle.board_base.specs.declared.men.Kind.{Kind}
use Rattle.board_base.specs.declared.men.Kind.TheVariants.{Pawn, Knight, Bishop, Rook, Queen, King}
use Rattle.board_base.specs.declared.moves.Move.{Move}
use Rattle.board_base.specs.declared.castles.Castle.{Castle}

-- Article 3.9: some king of c is attacked by the other side
unfoldable pub in_check : Places → Colour → Bool
in_check board c = list_any (λ s. is_the c King (at board s) && attacks board s (opponent c)) (range_with_len 0 64)

-- Article 2.3: the rank, counted from 0, on which pawns of this colour begin
abbrev pub pawn_rank : Colour → ℕ
pawn_rank White = 1
pawn_rank Black = 6

-- Article 3.7: the rank, counted from 0, on which pawns of this colour are promoted
abbrev pub last_rank : Colour → ℕ
last_rank White = 7
last_rank Black = 0

-- Article 3.7: what a pawn may become
abbrev pub is_officer : Kind → Bool
is_officer k = same_kind k Queen || same_kind k Rook || same_kind k Bishop || same_kind k Knight

-- Article 3.7: a pawn that reaches the last rank is promoted, and nothing else is
unfoldable pub promotion_fits : Places → Colour → Move → Bool
promotion_fits board c m =
    let reaches : Bool = is_a Pawn (at board m.from) && (rank m.to == last_rank c)
    in elim m.promo [ None ↦ not reaches | Some k ↦ reaches && is_officer k ]

-- the promotions are equal
abbrev pub same_promo : Option Kind → Option Kind → Bool
same_promo None None = true
same_promo (Some j) (Some k) = same_kind j k
same_promo _ _ = false

-- a move is given, and it is this one
abbrev pub is_move : Option Move → Move → Bool
is_move None m = false
is_move (Some l) m = (l.from == m.from) && (l.to == m.to) && same_promo l.promo m.promo

-- Articles 3.2 to 3.6 and 3.8: a man that is no pawn attacks the target
unfoldable pub man_moves : Places → Move → Bool
man_moves board m = not (is_a Pawn (at board m.from)) && attacks_from board m.from m.to

-- Article 3.7: a pawn goes one square forward to an empty square
unfoldable pub pawn_steps : Places → Colour → Move → Bool
pawn_steps board c m =
    is_a Pawn (at board m.from) && one_ahead c m.from m.to && (file m.from == file m.to) && is_empty (at board m.to)

-- Article 3.7: a pawn goes two squares forward from its home, and both squares are empty
unfoldable pub pawn_doubles : Places → Colour → Move → Bool
pawn_doubles board c m =
    is_a Pawn (at board m.from) && (rank m.from == pawn_rank c) && (file m.from == file m.to) && (ranks_apart m.from m.to == 2) && is_open board m.from m.to && is_empty (at board m.to)

-- Article 3.7: a pawn goes one square diagonally forward to a man of the other colour
unfoldable pub pawn_captures : Places → Colour → Move → Bool
pawn_captures board c m =
    is_a Pawn (at board m.from) && one_ahead c m.from m.to && (files_apart m.from m.to == 1) && is_of (opponent c) (at board m.to)

-- Article 3.7: a pawn goes one square diagonally forward to an empty square, past a pawn that has just made a double step
unfoldable pub pawn_captures_en_passant : Places → Colour → Option Move → Move → Bool
pawn_captures_en_passant board c last m =
    is_a Pawn (at board m.from) && is_empty (at board m.to) && elim (double_of m c) [
      | None ↦ false
      | Some d ↦ is_move last d && is_the (opponent c) Pawn (at board d.to)
    ]

-- Article 3.8: it is c's castling, its right is held, c's king and rook are at home, no man is between, and none of the king's three squares is attacked
abbrev pub may_castle : Places → Colour → (Castle → Bool) → Castle → Bool
may_castle board c rights x =
    same_colour c (side x) && rights x && is_the c King (at board (king_home x)) && is_the c Rook (at board (rook_home x)) && is_open board (king_home x) (rook_home x) && not (attacks board (king_home x) (opponent c)) && not (attacks board (crossed x) (opponent c)) && not (attacks board (king_target x) (opponent c))

-- Article 3.8: the move is a castling that c may play
unfoldable pub king_castles : Places → Colour → (Castle → Bool) → Move → Bool
king_castles board c rights m = elim (castling board m) [ None ↦ false | Some x ↦ may_castle board c rights x ]

-- Articles 3.2 to 3.8: the man may go so
unfoldable pub may_go : Places → Colour → (Castle → Bool) → Option Move → Move → Bool
may_go board c rights last m =
    man_moves board m || pawn_steps board c m || pawn_doubles board c m || pawn_captures board c m || pawn_captures_en_passant board c last m || king_castles board c rights m

-- Articles 1.4, 3.1 and 3.9: a man of c goes as he may, to a square of the board where no man of c and no king stands, and is
-- promoted if and only if he must be; and no king of c is attacked afterwards
unfoldable pub legal_on : Places → Colour → (Castle → Bool) → Option Move → Move → Bool
legal_on board c rights last m =
    nat_lt m.to 64 &&
    is_of c (at board m.from) && not (is_of c (at board m.to)) && not (is_a King (at board m.to)) && promotion_fits board c m && may_go board c rights last m && not (in_check (play board m) c)
