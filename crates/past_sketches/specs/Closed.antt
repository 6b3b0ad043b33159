-- Closed sketches: each figure has all squares from which he may have come by a quiet move, while the fixed figures stood.
use Rattle.std.specs.Prelude.{ℕ, ◌≡◌, Bool, ◌&&◌, ◌||◌, not, ◌==◌, nat_lt, IsTrue, List, Some}
use Rattle.std.specs.List.{list_all}
use Rattle.board_base.specs.Board.{file, is_in, opponent, rank, same_kind}
use Rattle.board_base.specs.Attacks.{kind_attacks, one_ahead, on_the_way, ranks_apart}
use Rattle.board_base.specs.Legal.{pawn_rank}
use Rattle.board_base.specs.Rights.{Rights}
use Rattle.board_base.specs.declared.men.Colour.{Colour}
use Rattle.board_base.specs.declared.men.Kind.{Kind}
use Rattle.board_base.specs.declared.men.Kind.TheVariants.{Pawn, Knight, Bishop, Rook, Queen, King}
use Rattle.cage_rules.specs.Frozen.{is_held_home, is_past_home}
use Rattle.cage_rules.specs.Regions.{walls}
use Rattle.past_sketches.specs.Figures.{Figure, Sketch, figure_at, fixed_squares, may_be}
use Rattle.past_sketches.specs.FileOrder.{leaves_room}
use Rattle.past_sketches.specs.Touching.{guarded_squares, touched_squares}

-- nobody is fixed on e, a square of the board, and s isn't the home of a right that is held, to which nobody has gone
abbrev pub is_loose : Rights → Sketch → ℕ → ℕ → Bool
is_loose held T e s = nat_lt e 64 && not (is_in (fixed_squares T) e) && not (is_held_home held s)

-- Article 3.9: from e a man of this side, which is to move, touches no fixed enemy king
abbrev pub is_unguarded : Sketch → Colour → Kind → ℕ → Bool
is_unguarded T c k e = not (is_in (guarded_squares T c k) e)

-- Article 3.7: a pawn goes straight on, one square, or two from where pawns begin
abbrev pub goes_straight : Colour → ℕ → ℕ → Bool
goes_straight c e s = (file e == file s) && (one_ahead c e s || ((rank e == pawn_rank c) && (ranks_apart e s == 2)))

-- and where he goes two, nobody is fixed on the one between
abbrev pub pawn_goes : Sketch → Colour → ℕ → ℕ → Bool
pawn_goes T c e s = goes_straight c e s && (one_ahead c e s || not (is_in (fixed_squares T) (on_the_way e s 1)))

-- Articles 3.2 to 3.8: A man of this colour and kind goes from e to s past the fixed figures and captures nobody: a pawn straight on, to
-- a square to which pawns come; another as he attacks; a king not to a square that a fixed enemy surely touches.
abbrev pub goes_past : Sketch → Colour → Kind → ℕ → ℕ → Bool
goes_past T c Pawn e s = is_past_home c s && pawn_goes T c e s
goes_past T c King e s = kind_attacks (walls (fixed_squares T)) c King e s && not (is_in (touched_squares T (opponent c)) s)
goes_past T c Knight e s = kind_attacks (walls (fixed_squares T)) c Knight e s
goes_past T c Bishop e s = kind_attacks (walls (fixed_squares T)) c Bishop e s
goes_past T c Rook e s = kind_attacks (walls (fixed_squares T)) c Rook e s
goes_past T c Queen e s = kind_attacks (walls (fixed_squares T)) c Queen e s

-- So he goes, and nobody bars it: nobody is fixed where he comes from, nor would he have given check there with his own side to move.
-- A castling is made of such ways: its king goes a square at a time, and its rook may have stood on the king's home.
abbrev pub is_quiet_way : Rights → Sketch → Colour → Kind → ℕ → ℕ → Bool
is_quiet_way held T c k e s = is_loose held T e s && goes_past T c k e s && is_unguarded T c k e

-- if he is a pawn, his file isn't one of which each step is taken back, and all figures leave him room on e
abbrev pub has_room : List Bool → Sketch → Figure → Kind → ℕ → Bool
has_room exact T f k e = not (same_kind Pawn k) || (not (is_in exact (file e)) && list_all (leaves_room f e) T)

-- where a figure may stand, he may stand before each quiet way there; on the exact files pawns have none
abbrev pub IsClosed : Rights → List Bool → Sketch → Type 0
IsClosed held exact T = (i : ℕ) (f : Figure) (k : Kind) (e s : ℕ) → figure_at T i ≡ Some f → IsTrue (may_be f k) → IsTrue (is_in f.squares s) → IsTrue (is_quiet_way held T f.colour k e s) → IsTrue (has_room exact T f k e) → IsTrue (is_in f.squares e)
