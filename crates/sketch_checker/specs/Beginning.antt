-- Sketches with which a walk can begin.
use Rattle.std.specs.Prelude.{◌≡◌, Bool, true, false, List}
use Rattle.std.specs.List.{list_all}
use Rattle.board_base.specs.declared.men.Colour.TheVariants.{White, Black}
use Rattle.figures.specs.Clashes.{is_clash, is_crowded}
use Rattle.figures.specs.Figures.{Sketch}
use Rattle.sketch_walk.specs.Places.{has_low_place}

-- all places can be doubled, no side has more figures than men in the array, and nobody clashes
pub record CanBegin (o : List Bool) (S : Sketch) : Type 0 where
  pub low : list_all has_low_place S ≡ true
  pub white : is_crowded o S White ≡ false
  pub black : is_crowded o S Black ≡ false
  pub apart : is_clash S ≡ false
