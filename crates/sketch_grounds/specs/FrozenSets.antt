-- The greatest frozen set of a sketch, as a function of it and of the rights that are held.
use Rattle.std.specs.Prelude.{ℕ, Bool, ◌&&◌, ◌||◌, not, List}
use Rattle.std.specs.List.{list_all, list_any, range_with_len}
use Rattle.board_base.specs.Board.{is_in}
use Rattle.board_base.specs.Rights.{Rights}
use Rattle.cage_rules.specs.Frozen.{is_held_home}
use Rattle.cage_rules.specs.Sets.{each_set, squares_that}
use Rattle.figures.specs.Figures.{Figure, Sketch, is_fixed_on}
use Rattle.past_account.specs.Frozen.{figure_enters}

-- the figure is fixed on s, and s is a home of a right that is held, or each square by which his man may have come is in the set
abbrev pub is_shut_in : Rights → List Bool → ℕ → Figure → Bool
is_shut_in held set s f = is_fixed_on s f && (is_held_home held s || list_all (λ t. not (figure_enters f s t) || is_in set t) (range_with_len 0 64))

-- on each square of the set a figure is so
unfoldable pub is_frozen_in : Rights → Sketch → List Bool → Bool
is_frozen_in held S set = list_all (λ s. not (is_in set s) || list_any (is_shut_in held set s) S) (range_with_len 0 64)

-- the squares that some such set has: together they are the greatest such set
unfoldable pub greatest_frozen : Rights → Sketch → List Bool
greatest_frozen held S = squares_that (λ s. not (each_set (λ set. not (is_in set s && is_frozen_in held S set))))
