-- Inner: no public clause cites this file.
-- A round of the loop that closes a sketch, as the ground tells it.
use Rattle.std.specs.Prelude.{ℕ, Bool, ◌&&◌, ◌||◌, not, List}
use Rattle.std.specs.List.{list_any}
use Rattle.board_base.specs.Board.{file, is_in, same_kind}
use Rattle.board_base.specs.declared.men.Kind.{Kind}
use Rattle.board_base.specs.declared.men.Kind.TheVariants.{Pawn}
use Rattle.figures.specs.Sets.{squares_that}
use Rattle.figures.specs.Figures.{Figure, Sketch}
use Rattle.sketch_sets.specs.declared.ground.Ground.{Ground}
use Rattle.sketch_sets.specs.Files.{has_all_room}
use Rattle.sketch_sets.specs.Tests.{some_that}
use Rattle.sketch_sets.specs.Quiet.{quiet_on}

unfoldable pub room_on : List Bool → Sketch → Figure → Kind → ℕ → Bool
room_on exact T f k e = not (same_kind Pawn k) || (not (is_in exact (file e)) && has_all_room T f e)

unfoldable pub from_on : Ground → List Bool → Sketch → Figure → ℕ → Kind → Bool
from_on g exact T f e k = room_on exact T f k e && some_that f.squares (quiet_on g f.colour k e)

unfoldable pub origin_on : Ground → List Bool → Sketch → Figure → ℕ → Bool
origin_on g exact T f e = list_any (from_on g exact T f e) f.kinds

unfoldable pub wide_on : Ground → List Bool → Sketch → Figure → ℕ → Bool
wide_on g exact T f e = is_in f.squares e || origin_on g exact T f e

unfoldable pub wide_set_on : Ground → List Bool → Sketch → Figure → List Bool
wide_set_on g exact T f = squares_that (wide_on g exact T f)
