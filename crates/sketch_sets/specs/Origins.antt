-- Inner: no public clause cites this file.
-- Where figures may have come from: a round of the loop that closes a sketch.
use Rattle.std.specs.Prelude.{ℕ, Bool, ◌&&◌, ◌||◌, List, map}
use Rattle.std.specs.List.{list_any, range_with_len}
use Rattle.board_base.specs.Board.{is_in}
use Rattle.board_base.specs.Rights.{Rights}
use Rattle.board_base.specs.declared.men.Kind.{Kind}
use Rattle.figures.specs.Sets.{squares_that}
use Rattle.figures.specs.Closed.{has_room, is_quiet_way}
use Rattle.figures.specs.Figures.{Figure, Sketch}
use Rattle.sketch_sets.specs.Remade.{with_set}

-- he comes from e to some square of his as this kind; as some kind of his
unfoldable pub comes_from : Rights → List Bool → Sketch → Figure → ℕ → Kind → Bool
comes_from held exact T f e k = has_room exact T f k e && list_any (λ s. is_in f.squares s && is_quiet_way held T f.colour k e s) (range_with_len 0 64)

unfoldable pub is_origin : Rights → List Bool → Sketch → Figure → ℕ → Bool
is_origin held exact T f e = list_any (comes_from held exact T f e) f.kinds

-- his squares and those from which he comes there
unfoldable pub widened_set : Rights → List Bool → Sketch → Figure → List Bool
widened_set held exact T f = squares_that (λ e. is_in f.squares e || is_origin held exact T f e)

abbrev pub widened : Rights → List Bool → Sketch → Sketch
widened held exact T = map (with_set (widened_set held exact T)) T
