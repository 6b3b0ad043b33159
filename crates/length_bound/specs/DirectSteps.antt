-- How many steps a man needs on an empty board, told by how far apart the squares are.
use Rattle.std.specs.Prelude.{ℕ, ◌+◌, ◌-◌, ◌*◌, ◌/◌, ◌%◌, min, max, Bool, cond, ◌&&◌, ◌||◌, ◌==◌, nat_lt}
use Rattle.board_base.specs.Board.{file, rank}
use Rattle.board_base.specs.Attacks.{files_apart, ranks_apart, on_one_line, on_one_diagonal, king_distance}
use Rattle.board_base.specs.declared.men.Kind.{Kind}
use Rattle.board_base.specs.declared.men.Kind.TheVariants.{Pawn, Knight, Bishop, Rook, Queen, King}

-- the square is a1, h1, a8 or h8
abbrev pub is_corner : ℕ → Bool
is_corner s = ((file s == 0) || (file s == 7)) && ((rank s == 0) || (rank s == 7))

-- a knight's steps over so many files and ranks, the greater number first, with one of the squares in a corner or none
abbrev pub knight_steps : Bool → ℕ → ℕ → ℕ
knight_steps corner more less =
    cond ((more == 1) && (less == 0)) 3
    (cond ((more == 2) && (less == 2)) 4
    (cond ((more == 1) && (less == 1) && corner) 4
    (cond (nat_lt (more - less) less)
    ((more - less) + 2 * ((less - (more - less) + 2) / 3))
    ((more - less) - 2 * ((more - less - less) / 4)))))

-- the steps of a man from one square to another; 64 where a bishop would change its colour of squares, and for pawns
abbrev pub direct_steps : Kind → ℕ → ℕ → ℕ
direct_steps King h s = king_distance h s
direct_steps Queen h s = cond (h == s) 0 (cond (on_one_line h s || on_one_diagonal h s) 1 2)
direct_steps Rook h s = cond (h == s) 0 (cond (on_one_line h s) 1 2)
direct_steps Bishop h s = cond (h == s) 0 (cond (on_one_diagonal h s) 1 (cond ((files_apart h s + ranks_apart h s) % 2 == 0) 2 64))
direct_steps Knight h s = knight_steps (is_corner h || is_corner s) (max (files_apart h s) (ranks_apart h s)) (min (files_apart h s) (ranks_apart h s))
direct_steps Pawn h s = 64
