-- Sketches that fit no moment by themselves: somebody has no square, two are fixed on one, or a side has too many figures.
use Rattle.std.specs.Prelude.{Bool, false, ◌&&◌, ◌||◌, not, nat_lt, List, [], ◌∷◌}
use Rattle.std.specs.List.{count_by, list_all, list_any, range_with_len}
use Rattle.board_base.specs.Board.{array_of, at, is_in, is_of, same_colour}
use Rattle.board_base.specs.declared.men.Colour.{Colour}
use Rattle.past_sketches.specs.Figures.{Figure, Sketch, is_fixed_on}

-- the figure has no square
abbrev pub is_nowhere : Figure → Bool
is_nowhere f = list_all (λ s. not (is_in f.squares s)) (range_with_len 0 64)

-- two figures pass the test
abbrev pub do_two : (Figure → Bool) → Sketch → Bool
do_two p [] = false
do_two p (f ∷ S) = (p f && list_any p S) || do_two p S

-- a figure has no square, or two are fixed on one
unfoldable pub is_clash : Sketch → Bool
is_clash S = list_any is_nowhere S || list_any (λ s. do_two (is_fixed_on s) S) (range_with_len 0 64)

-- there are more figures of the colour than men of it in the array
unfoldable pub is_crowded : List Bool → Sketch → Colour → Bool
is_crowded o S c = nat_lt (count_by (λ h. is_of c (at (array_of o) h)) (range_with_len 0 64)) (count_by (λ f. same_colour c f.colour) S)
