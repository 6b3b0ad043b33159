-- Inner: no public clause cites this file.
-- Sketches with other sets of squares.
use Rattle.std.specs.Prelude.{◌≡◌, Bool, List, [], ◌∷◌, length}
use Rattle.figures.specs.Figures.{Figure, Sketch}

abbrev pub set_of : Figure → List Bool
set_of f = f.squares

-- the figure on the squares that h tells
abbrev pub with_set : (Figure → List Bool) → Figure → Figure
with_set h f = record f { squares = h f }

-- each set has 64 truth values
abbrev pub AreWhole : Sketch → Type 0
AreWhole [] = Unit {0}
AreWhole (f ∷ T) = (length f.squares ≡ 64) × AreWhole T
