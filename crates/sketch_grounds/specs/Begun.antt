-- Inner: no public clause cites this file.
-- Figures who stand for men of the array.
use Rattle.std.specs.Prelude.{Bool, false, ◌&&◌, ◌||◌, not, List, Option, Some, None}
use Rattle.std.specs.List.{list_all, range_with_len}
use Rattle.board_base.specs.Board.{Places, at, is_in, same_colour}
use Rattle.board_base.specs.declared.men.Man.{Man}
use Rattle.figures.specs.Figures.{Figure, is_fixed_on, may_be}

-- the figure may stand for the man there
abbrev pub begins_on : Option Man → Figure → Bool
begins_on None f = false
begins_on (Some m) f = same_colour m.colour f.colour && may_be f m.kind

-- so he may where he is fixed, if that is in the set
unfoldable pub is_begun : Places → List Bool → Figure → Bool
is_begun first set f = list_all (λ s. not (is_in set s && is_fixed_on s f) || begins_on (at first s) f) (range_with_len 0 64)
