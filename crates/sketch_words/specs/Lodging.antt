-- Inner: no public clause cites this file.
-- Homes of figures on a board.
use Rattle.std.specs.Prelude.{Bool, List, count_by, false, nat_lt, Option, Some, None, ◌==◌, ◌&&◌}
use Rattle.board_base.specs.Board.{Places}
use Rattle.figures.specs.Figures.{Figure, Sketch}
use Rattle.sketch_sets.specs.Homes.{home_count, homes_on, is_inside}
use Rattle.sketch_words.specs.declared.crowds.Lack.{Lack}
use Rattle.sketch_words.specs.declared.crowds.Lack.TheVariants.{Home, Room}

-- all homes of the figure are among these
abbrev pub lives_on : Places → List Bool → Figure → Bool
lives_on first homes g = is_inside (homes_on first g) homes

-- the same of a figure, if there is one
abbrev pub lodges_on : Places → List Bool → Option Figure → Bool
lodges_on first homes None = false
lodges_on first homes (Some g) = lives_on first homes g

-- The figure has no home, and fewer squares than so many; or more figures have all their homes among his than there are.
abbrev pub lacks_on : Lack → Places → Sketch → Figure → Bool
lacks_on (Home below) first T f = (home_count (homes_on first f) == 0) && nat_lt (home_count f.squares) below
lacks_on Room first T f = nat_lt (home_count (homes_on first f)) (count_by (lives_on first (homes_on first f)) T)
