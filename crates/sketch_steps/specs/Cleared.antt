-- Inner: no public clause cites this file.
-- Names for what stood before a step, which computation would write out.
use Rattle.std.specs.Prelude.{ℕ, ◌+◌, ◌*◌, ◌==◌, ◌&&◌, cond, Bool, List, [], ◌∷◌, Option, Some, None}
use Rattle.board_base.specs.Board.{is_in}
use Rattle.board_base.specs.declared.men.Colour.{Colour}
use Rattle.figures.specs.Sets.{squares_that}
use Rattle.figures.specs.Figures.{Figure}
use Rattle.figures.specs.Steps.{Step, bystander, changed_by, is_cleared, pawn_before}

unfoldable pub clears : Colour → Step → ℕ → Bool
clears c x s = is_cleared c x s

unfoldable pub bystander_of : Colour → Step → Figure → Figure
bystander_of c x f = bystander c x f

unfoldable pub pawn_of : Step → Figure → Figure
pawn_of x f = pawn_before x f

unfoldable pub changed_of : Colour → Step → ℕ → Figure → Figure
changed_of c x i f = changed_by c x i f

-- a figure who keeps of his squares those that a step left others; the figures, of whom one made it
unfoldable pub bystander_with : List Bool → Figure → Figure
bystander_with kept f = record f { squares = squares_that (λ s. is_in f.squares s && is_in kept s); place = 2 * f.place + 1 }

unfoldable pub changed_with : List Bool → Step → ℕ → Figure → Figure
changed_with kept x i f = cond (i == x.by) (pawn_of x f) (bystander_with kept f)

-- the figure, if there is one, as a list
abbrev pub listed : Option Figure → List Figure
listed None = []
listed (Some f) = f ∷ []
