-- What one step of a man is, and the squares one step from a set.
use Rattle.std.specs.Prelude.{ℕ, ◌*◌, Bool, false, ◌&&◌, ◌==◌, List}
use Rattle.std.specs.List.{list_any, range_with_len}
use Rattle.board_base.specs.Board.{file, is_in}
use Rattle.board_base.specs.Attacks.{files_apart, ranks_apart, on_one_diagonal, on_one_line, one_ahead}
use Rattle.board_base.specs.declared.men.Colour.{Colour}
use Rattle.board_base.specs.declared.men.Kind.{Kind}
use Rattle.board_base.specs.declared.men.Kind.TheVariants.{Pawn, Knight, Bishop, Rook, Queen, King}
use Rattle.cage_rules.specs.Frozen.{is_next}
use Rattle.cage_rules.specs.Sets.{squares_that}

-- the square is so placed to some square of the set
unfoldable pub is_near : (ℕ → ℕ → Bool) → List Bool → ℕ → Bool
is_near p set s = list_any (λ t. p s t && is_in set t) (range_with_len 0 64)

-- the squares that are
unfoldable pub near : (ℕ → ℕ → Bool) → List Bool → List Bool
near p set = squares_that (is_near p set)

-- the squares are on one file, with s ahead of t for a pawn of this colour
abbrev pub is_ahead : Colour → ℕ → ℕ → Bool
is_ahead c s t = (file s == file t) && one_ahead c t s

-- one step along a line, one along a diagonal, and a knight's move
abbrev pub is_line_step : ℕ → ℕ → Bool
is_line_step s t = is_next s t && on_one_line s t

abbrev pub is_diagonal_step : ℕ → ℕ → Bool
is_diagonal_step s t = is_next s t && on_one_diagonal s t

abbrev pub is_knight_step : ℕ → ℕ → Bool
is_knight_step s t = files_apart s t * ranks_apart s t == 2

-- the steps of which the moves of a piece are made
unfoldable pub is_step : Kind → ℕ → ℕ → Bool
is_step Knight s t = is_knight_step s t
is_step Bishop s t = is_diagonal_step s t
is_step Rook s t = is_line_step s t
is_step Queen s t = is_next s t
is_step King s t = is_next s t
is_step Pawn s t = false
