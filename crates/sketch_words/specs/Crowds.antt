-- Why not all men of a sketch can have come from home, in words.
use Rattle.std.specs.Prelude.{ℕ, ◌+◌, ◌==◌, Bool, false, cond, ◌&&◌, length, List, [], ◌∷◌, ◌++◌, codes, count_by, nat_lt, Option, Some, None, not}
use Rattle.std.specs.List.{flat_map, range_with_len}
use Rattle.board_base.specs.Board.{is_in}
use Rattle.figures.specs.Figures.{Figure, Sketch, figure_at}
use Rattle.figures.specs.Homes.{has_homes, is_home, lives_within}
use Rattle.figures.specs.Sets.{squares_that}
use Rattle.sketch_words.specs.Words.{called_words, figure_words, set_words}
use Rattle.sketch_words.specs.declared.crowds.Lack.{Lack}
use Rattle.sketch_words.specs.declared.crowds.Lack.TheVariants.{Home, Room}

-- The figure has no home, and fewer squares than so many; or he has fewer homes than there are figures of T whose homes all lie within his.
abbrev pub lacks_homes : Lack → List Bool → Sketch → Figure → Bool
lacks_homes (Home below) o T f = (count_by (is_home o f) (range_with_len 0 64) == 0) && nat_lt (count_by (is_in f.squares) (range_with_len 0 64)) below
lacks_homes Room o T f = not (has_homes o T f)

-- the number of the first of these figures who lacks this, if the first of them has number i
abbrev pub first_lacking : Lack → List Bool → Sketch → ℕ → List Figure → Option ℕ
first_lacking lack o T i [] = None
first_lacking lack o T i (f ∷ fs) = cond (lacks_homes lack o T f) (Some i) (first_lacking lack o T (i + 1) fs)

-- one of two numbers, the first if there is one
abbrev pub either_of : Option ℕ → Option ℕ → Option ℕ
either_of None x = x
either_of (Some i) x = Some i

-- the first figure without a home who has at most eight squares; if there is none, the first without a home
abbrev pub first_roaming : List Bool → Sketch → Option ℕ
first_roaming o T = either_of (first_lacking (Home 9) o T 0 T) (first_lacking (Home 65) o T 0 T)

-- the first figure without a home who has one square alone; if there is none, that one
abbrev pub first_homeless : List Bool → Sketch → Option ℕ
first_homeless o T = either_of (first_lacking (Home 2) o T 0 T) (first_roaming o T)

-- that one; if there is none, the first with too few homes
abbrev pub first_crowded : List Bool → Sketch → Option ℕ
first_crowded o T = either_of (first_homeless o T) (first_lacking Room o T 0 T)

-- the name of a figure with this number, if there is one
abbrev pub named : Sketch → ℕ → Option Figure → List ℕ
named diagram i None = []
named diagram i (Some f) = figure_words diagram i f

-- all homes of a figure lie within those of f
abbrev pub is_lodger : List Bool → Figure → Option Figure → Bool
is_lodger o f None = false
is_lodger o f (Some g) = lives_within o f g

-- the names in S of those figures of T whose homes all lie within those of f
abbrev pub lodgers_words : List Bool → Sketch → Sketch → Sketch → Figure → List ℕ
lodgers_words o diagram S T f = flat_map (λ i. cond (is_lodger o f (figure_at T i)) (named diagram i (figure_at S i)) []) (range_with_len 0 (length T))

-- on which squares a man can have been, if they are at most eight; his home isn't among them
abbrev pub places_words : List ℕ → List ℕ
places_words squares =
    cond (length squares == 3) (codes " can only have been there, where no such man began") (cond (nat_lt 24 (length squares)) (codes " can't have come from home") (codes " can only have been on" ++ squares ++ codes ", where no such man began"))

-- a man without a home
abbrev pub lone_words : Sketch → ℕ → Option Figure → List ℕ → List ℕ
lone_words diagram i f squares = called_words diagram i f ++ places_words squares

-- men for whom there are only these homes; or one man, with this number, for whom there are none
abbrev pub came_words : Sketch → ℕ → Option Figure → List ℕ → List ℕ → List ℕ → List ℕ
came_words diagram i f names homes squares =
    cond (length homes == 0) (lone_words diagram i f squares) (codes " these men can only have come from" ++ homes ++ codes ":" ++ names)

-- why not all men of S can have come from home, if T says where they can have been, and the figure with this number has too few homes
abbrev pub why_at : List Bool → Sketch → Sketch → Sketch → ℕ → Option Figure → List ℕ
why_at o diagram S T i None = codes " not all men can have come from home"
why_at o diagram S T i (Some f) =
    came_words diagram i (figure_at S i) (lodgers_words o diagram S T f) (set_words (squares_that (is_home o f))) (set_words f.squares)

-- why T can't be the array, by the first of its men for whom it has too few homes, if one is named
abbrev pub why_words : List Bool → Sketch → Sketch → Sketch → Option ℕ → List ℕ
why_words o diagram S T None = codes " not all men can have come from home"
why_words o diagram S T (Some i) = why_at o diagram S T i (figure_at T i)
