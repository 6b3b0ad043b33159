-- When the sketch before each step of a sketch has values.
use Rattle.std.specs.Prelude.{Bool, ◌&&◌, ◌||◌, not, nat_lt, length, List}
use Rattle.std.specs.List.{list_all}
use Rattle.board_base.specs.declared.men.Colour.TheVariants.{White, Black}
use Rattle.figures.specs.Figures.{Sketch}
use Rattle.sketch_steps.specs.Places.{has_low_place}
use Rattle.sketch_list.specs.Listed.{is_short}

-- all places can be doubled, and there are fewer than 32 figures or no man of either side can have been taken
unfoldable pub can_step_back : List Bool → Sketch → Bool
can_step_back o T = list_all has_low_place T && (nat_lt (length T) 32 || not (is_short o T White || is_short o T Black))
