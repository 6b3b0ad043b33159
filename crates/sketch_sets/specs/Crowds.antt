-- Inner: no public clause cites this file.
-- The figures of a side.
use Rattle.std.specs.Prelude.{Bool}
use Rattle.board_base.specs.Board.{same_colour}
use Rattle.board_base.specs.declared.men.Colour.{Colour}
use Rattle.figures.specs.Figures.{Figure}

abbrev pub is_on_side : Colour → Figure → Bool
is_on_side c f = same_colour c f.colour
