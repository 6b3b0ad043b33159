-- The sketch before a step, with the victim last and the places counted anew.
use Rattle.std.specs.Prelude.{◌+◌, Bool, false, ◌&&◌, ◌||◌, not, nat_lt, ◌++◌, map, length, Option, Some, None, count_by}
use Rattle.std.specs.List.{list_all}
use Rattle.board_base.specs.Play.{ahead}
use Rattle.board_base.specs.declared.men.Kind.TheVariants.{Pawn}
use Rattle.figures.specs.Figures.{Figure, Sketch, each_changed, figure_at, may_be}
use Rattle.figures.specs.Steps.{Step, changed_by, victims}

-- the second figure may be a pawn, and has a lower place
unfoldable pub is_lower : Figure → Figure → Bool
is_lower f g = may_be g Pawn && nat_lt g.place f.place

-- the figure, whose place is how many figures may be pawns and have a lower one
unfoldable pub placed_in : Sketch → Figure → Figure
placed_in T f = record f { place = count_by (is_lower f) T }

-- all places counted anew, in the same order
unfoldable pub recounted : Sketch → Sketch
recounted T = map (placed_in T) T

-- each figure before the step that f made, by his number, and then the victim, if there was one
unfoldable pub others_first : Sketch → Figure → Step → Sketch
others_first T f x = each_changed (changed_by f.colour x) 0 T ++ victims f x

-- and so with the places counted anew, if somebody made the step
abbrev pub before_by : Sketch → Option Figure → Step → Sketch
before_by T None x = T
before_by T (Some f) x = recounted (others_first T f x)

-- the sketch before the step
unfoldable pub before_step : Sketch → Step → Sketch
before_step T x = before_by T (figure_at T x.by) x

-- twice the place, and one more, is below 256
unfoldable pub has_low_place : Figure → Bool
has_low_place f = nat_lt f.place 127

-- the pawn that f took en passant came from a square of the board
unfoldable pub has_home : Figure → Step → Bool
has_home f x = not x.passing || nat_lt (ahead f.colour x.to) 64

-- f made the step, and the sketch before it has values for its places and has at most 32 figures
unfoldable pub fits_before : Sketch → Figure → Step → Bool
fits_before T f x = nat_lt (length T + length (victims f x)) 33 && nat_lt x.place 128 && has_home f x && list_all has_low_place T

abbrev pub fits_by : Sketch → Option Figure → Step → Bool
fits_by T None x = false
fits_by T (Some f) x = fits_before T f x

-- somebody made the step, and the sketch before it has values
unfoldable pub can_go_back : Sketch → Step → Bool
can_go_back T x = fits_by T (figure_at T x.by) x
