-- Inner: no public clause cites this file.
-- Whether figures who have all their squares within those of a figure are no more than these are.
use Rattle.std.specs.Prelude.{Bool, not, nat_lt, count_by}
use Rattle.figures.specs.Figures.{Figure, Sketch}
use Rattle.sketch_sets.specs.Homes.{home_count, is_inside}

unfoldable pub lives_in : Figure → Figure → Bool
lives_in f g = is_inside g.squares f.squares

unfoldable pub suffices : Sketch → Figure → Bool
suffices T f = not (nat_lt (home_count f.squares) (count_by (lives_in f) T))
