-- Inner: no public clause cites this file.
-- What the ways of a sketch's figures depend on.
use Rattle.std.specs.Prelude.{ℕ, Bool, ◌&&◌, List}
use Rattle.std.specs.List.{list_any, range_with_len}
use Rattle.board_base.specs.Board.{same_colour}
use Rattle.board_base.specs.Rights.{Rights}
use Rattle.board_base.specs.declared.men.Colour.{Colour}
use Rattle.board_base.specs.declared.men.Colour.TheVariants.{White, Black}
use Rattle.figures.specs.Frozen.{is_held_home}
use Rattle.figures.specs.Sets.{squares_that}
use Rattle.figures.specs.Figures.{Figure, Sketch, fixed_squares}
use Rattle.figures.specs.Touching.{is_king_on, kings_of, touched_squares, touches_from}
use Rattle.sketch_sets.specs.declared.ground.Ground.{Ground}

-- the figure is fixed on some square from which he touches s
unfoldable pub surely_touches : Figure → ℕ → Bool
surely_touches f s = list_any (touches_from f s) (range_with_len 0 64)

abbrev pub touched_by : Colour → ℕ → Figure → Bool
touched_by c s f = same_colour c f.colour && surely_touches f s

-- the figure is a king of this colour, fixed on q
unfoldable pub is_king_there : Colour → ℕ → Figure → Bool
is_king_there c q f = is_king_on c q f

abbrev pub ground_of : Rights → Sketch → Ground
ground_of held T = record {
  fixed = fixed_squares T;
  held = squares_that (is_held_home held);
  white_kings = kings_of T White;
  black_kings = kings_of T Black;
  white_touched = touched_squares T White;
  black_touched = touched_squares T Black;
}

-- by colour
abbrev pub kings : Ground → Colour → List Bool
kings g White = g.white_kings
kings g Black = g.black_kings

abbrev pub touched : Ground → Colour → List Bool
touched g White = g.white_touched
touched g Black = g.black_touched
