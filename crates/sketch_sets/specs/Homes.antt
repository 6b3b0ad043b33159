-- Homes of figures on a board.
use Rattle.std.specs.Prelude.{ℕ, Bool, ◌&&◌, ◌||◌, not, List, count_by}
use Rattle.std.specs.List.{list_all, list_any, range_with_len}
use Rattle.board_base.specs.Board.{Places, at, is_in, is_the}
use Rattle.figures.specs.Sets.{squares_that}
use Rattle.figures.specs.Figures.{Figure}

-- a man of the figure's colour and of one of his kinds stands on h
unfoldable pub has_like : Places → Figure → ℕ → Bool
has_like first f h = list_any (λ k. is_the f.colour k (at first h)) f.kinds

-- so on a square of the figure
abbrev pub is_home_on : Places → Figure → ℕ → Bool
is_home_on first f h = is_in f.squares h && has_like first f h

-- these squares
unfoldable pub homes_on : Places → Figure → List Bool
homes_on first f = squares_that (is_home_on first f)

-- how many squares the set has
unfoldable pub home_count : List Bool → ℕ
home_count set = count_by (is_in set) (range_with_len 0 64)

-- each square of the first set is in the second
unfoldable pub is_inside : List Bool → List Bool → Bool
is_inside a b = list_all (λ q. not (is_in a q) || is_in b q) (range_with_len 0 64)
