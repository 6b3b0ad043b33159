-- Inner: no public clause cites this file.
-- What stays so of each sketch on a walk.
use Rattle.std.specs.Prelude.{◌≡◌, Bool, true, false, List}
use Rattle.std.specs.List.{list_all, list_any}
use Rattle.board_base.specs.declared.men.Colour.TheVariants.{White, Black}
use Rattle.figures.specs.Clashes.{is_crowded, is_nowhere}
use Rattle.figures.specs.Figures.{Sketch}
use Rattle.sketch_walk.specs.Places.{has_low_place}

-- all places can be doubled, and no side has more figures than men in the array
pub record HasRoom (o : List Bool) (S : Sketch) : Type 0 where
  pub low : list_all has_low_place S ≡ true
  pub white : is_crowded o S White ≡ false
  pub black : is_crowded o S Black ≡ false

-- it has room, and each figure has a square
pub record IsAble (o : List Bool) (S : Sketch) : Type 0 where
  pub room : HasRoom o S
  pub somewhere : list_any is_nowhere S ≡ false
