-- Inner: no public clause cites this file.
-- Names for tests of steps, which computation would write out.
use Rattle.std.specs.Prelude.{ℕ, ◌+◌, Bool, cond, ◌&&◌, not, ◌==◌, nat_lt, List}
use Rattle.board_base.specs.Attacks.{one_ahead}
use Rattle.board_base.specs.Board.{is_in}
use Rattle.board_base.specs.declared.men.Colour.{Colour}
use Rattle.play_rules.specs.Laws.{is_end}
use Rattle.figures.specs.Figures.{Figure, Sketch, fixed_squares}
use Rattle.figures.specs.Steps.{Step, has_place, has_squares, is_next_place, keeps_place, leaves_place, may_have_gone, may_have_made, passes, takes}
use Rattle.sketch_steps.specs.Arrivals.{arrives_on}

-- he takes whom the step says, on its target or en passant
unfoldable pub takes_by : Colour → Step → Bool
takes_by c x = takes c x.from x.to x.taken

unfoldable pub passes_by : Colour → Step → Bool
passes_by c x = passes c x.from x.to x.taken

unfoldable pub captures_by : Colour → Step → Bool
captures_by c x = cond x.passing (passes_by c x) (takes_by c x)

-- the place is next to the figure's, and to some figure's or the lowest
unfoldable pub is_next_to : ℕ → Figure → Bool
is_next_to n g = n == g.place + 1

unfoldable pub has_next : Sketch → ℕ → Bool
has_next T n = is_next_place T n

-- the figure leaves the place, and all do
unfoldable pub yields : Step → Figure → Bool
yields x g = leaves_place x g

unfoldable pub place_is_free : Sketch → Step → Bool
place_is_free T x = has_place T x

-- the target is his, and a pawn may have stood on the origin
unfoldable pub ends_are_free : Sketch → Figure → ℕ → ℕ → Bool
ends_are_free T f s t = is_in f.squares t && nat_lt t 64 && nat_lt s 64 && not (is_end s) && not (is_in (fixed_squares T) s)

unfoldable pub squares_are_free : Sketch → Figure → Step → Bool
squares_are_free T f x = has_squares T f x

-- the step can be told by the figure and the squares alone
unfoldable pub is_way : Sketch → Figure → Step → Bool
is_way T f x = not f.marked && squares_are_free T f x && one_ahead f.colour x.from x.to && arrives_on f x.to && captures_by f.colour x

unfoldable pub is_made : Sketch → Figure → Step → Bool
is_made T f x = may_have_made T f x

unfoldable pub keeps : Sketch → Figure → Step → Bool
keeps T f x = keeps_place T f x

unfoldable pub is_gone : List Bool → Sketch → Figure → Step → Bool
is_gone exact T f x = may_have_gone exact T f x
