-- The first figure of a sketch who stands on a set of squares, but isn't the array's man there.
use Rattle.std.specs.Prelude.{ℕ, ◌≡◌, ◌<◌, Bool, true, List, Some}
use Rattle.board_base.specs.Board.{is_in}
use Rattle.figures.specs.Figures.{Figure, Sketch, figure_at, is_fixed_on}
use Rattle.sketch_grounds.specs.Frozen.{IsBegun}

-- the figures with a number below n who are fixed on the set are of men who began there
abbrev pub AreBegunBefore : List Bool → Sketch → List Bool → ℕ → Type 0
AreBegunBefore o S set n = (i : ℕ) → i < n → (f : Figure) → figure_at S i ≡ Some f → (s : ℕ) → is_in set s ≡ true → is_fixed_on s f ≡ true → IsBegun o s f

-- s is a square of the set, and the first figure of the sketch who is fixed on the set and can't have begun there is fixed on s
pub record IsForeignIn (o : List Bool) (S : Sketch) (set : List Bool) (s : ℕ) : Type 0 where
  pub there : is_in set s ≡ true
  pub number : ℕ
  pub figure : Figure
  pub found : figure_at S number ≡ Some figure
  pub fixed : is_fixed_on s figure ≡ true
  pub other : IsBegun o s figure → ⊥
  pub first : AreBegunBefore o S set number
