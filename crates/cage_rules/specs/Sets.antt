-- Sets of squares by tests of their squares.
use Rattle.std.specs.Prelude.{ℕ, zero, suc, Bool, true, false, ◌&&◌, ◌||◌, List, [], ◌∷◌, map}
use Rattle.std.specs.List.{range_with_len}
use Rattle.board_base.specs.Board.{is_in}

-- the squares of the board that pass the test
unfoldable pub squares_that : (ℕ → Bool) → List Bool
squares_that p = map p (range_with_len 0 64)

-- the squares of either set
unfoldable pub union : List Bool → List Bool → List Bool
union a b = squares_that (λ s. is_in a s || is_in b s)

-- each list of n truth values passes the test
unfoldable pub all_lists : ℕ → (List Bool → Bool) → Bool
all_lists zero p = p []
all_lists (suc n) p = all_lists n (λ set. p (true ∷ set)) && all_lists n (λ set. p (false ∷ set))

-- each set of squares passes the test
abbrev pub each_set : (List Bool → Bool) → Bool
each_set p = all_lists 64 p
