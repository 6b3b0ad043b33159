-- Inner: no public clause cites this file.
-- Names for tests of all squares, which computation would write out.
use Rattle.std.specs.Prelude.{ℕ, Bool, ◌&&◌, ◌||◌, not, List}
use Rattle.std.specs.List.{list_all, list_any, range_with_len}
use Rattle.board_base.specs.Board.{is_in, same_kind}
use Rattle.board_base.specs.declared.men.Kind.TheVariants.{Pawn}
use Rattle.figures.specs.Sets.{squares_that}
use Rattle.figures.specs.Figures.{Figure, Sketch, is_fixed_on}
use Rattle.sketch_sets.specs.Files.{has_all_room}

-- some square is in both
unfoldable pub meets : List Bool → List Bool → Bool
meets a b = list_any (λ q. is_in a q && is_in b q) (range_with_len 0 64)

-- the squares of the figure on which nobody of these is fixed, unless it is himself, and on which all leave him room if he is a pawn
unfoldable pub is_kept : Sketch → List Bool → Figure → ℕ → Bool
is_kept T fixed f s = (not (is_in fixed s) || is_fixed_on s f) && (not (list_all (same_kind Pawn) f.kinds) || has_all_room T f s)

unfoldable pub kept_squares : Sketch → List Bool → Figure → List Bool
kept_squares T fixed f = squares_that (λ s. is_in f.squares s && is_kept T fixed f s)

-- all squares of the figure if he is fixed on one, else those on which nobody of these is
unfoldable pub free_squares : List Bool → Figure → List Bool
free_squares fixed f = squares_that (λ s. is_in f.squares s && (not (is_in fixed s) || is_fixed_on s f))

-- some square of the set passes the test
unfoldable pub some_that : List Bool → (ℕ → Bool) → Bool
some_that set p = list_any (λ s. is_in set s && p s) (range_with_len 0 64)
