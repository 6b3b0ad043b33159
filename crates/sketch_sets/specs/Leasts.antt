-- The least closed sketch above a sketch, with the same figures.
use Rattle.std.specs.Prelude.{◌≡◌, Bool, List, [], ◌∷◌}
use Rattle.board_base.specs.Rights.{Rights}
use Rattle.figures.specs.Closed.{IsClosed}
use Rattle.figures.specs.Figures.{Figure, IsAbove, Sketch}

-- the figures are the same but for their squares
pub record IsLike (f g : Figure) : Type 0 where
  pub colour : f.colour ≡ g.colour
  pub kinds : f.kinds ≡ g.kinds
  pub marked : f.marked ≡ g.marked
  pub place : f.place ≡ g.place

-- there are as many figures, the same but for their squares
abbrev pub AreLike : Sketch → Sketch → Type 0
AreLike [] [] = Unit {0}
AreLike [] (g ∷ T) = ⊥
AreLike (f ∷ S) [] = ⊥
AreLike (f ∷ S) (g ∷ T) = IsLike f g × AreLike S T

-- the sketch with the figures of S is above it and closed
pub record IsClosedAbove (held : Rights) (exact : List Bool) (S T : Sketch) : Type 0 where
  pub like : AreLike S T
  pub above : IsAbove S T
  pub closed : IsClosed held exact T
