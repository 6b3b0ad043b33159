-- Inner: no public clause cites this file.
-- A figure who is fixed on a set of squares, and what stands there.
use Rattle.std.specs.Prelude.{ℕ, ◌≡◌, Bool, true, false, List}
use Rattle.board_base.specs.Board.{Places, at, is_in}
use Rattle.figures.specs.Figures.{Figure, is_fixed_on}
use Rattle.sketch_grounds.specs.Begun.{begins_on}

-- the figure is fixed on s, which is in the set, and can't stand for what stands there
abbrev pub IsForeignOn : Places → List Bool → Figure → ℕ → Type 0
IsForeignOn first set f s = (is_in set s ≡ true) × (is_fixed_on s f ≡ true) × (begins_on (at first s) f ≡ false)

-- the figure can stand for what stands where he is fixed, if that is in the set
abbrev pub IsBegunOn : Places → List Bool → Figure → Type 0
IsBegunOn first set f = (s : ℕ) → is_in set s ≡ true → is_fixed_on s f ≡ true → begins_on (at first s) f ≡ true
