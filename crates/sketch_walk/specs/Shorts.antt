-- Inner: no public clause cites this file.
-- Which side has fewer figures than men in the array.
use Rattle.std.specs.Prelude.{◌≡◌, Bool, true, ◌||◌, not, nat_lt, length, List}
use Rattle.board_base.specs.Board.{opponent}
use Rattle.board_base.specs.declared.men.Colour.{Colour}
use Rattle.board_base.specs.declared.men.Colour.TheVariants.{White, Black}
use Rattle.figures.specs.Figures.{Figure, Sketch}
use Rattle.sketch_list.specs.Listed.{is_short}
use Rattle.sketch_list.specs.declared.steps.Victim.{Victim}
use Rattle.sketch_list.specs.declared.steps.Victim.TheVariants.{Nobody, TakenPawn, TakenBishop, TakenOther, PassedPawn}
use Rattle.sketch_walk.specs.declared.shorts.Shorts.{Shorts}

-- White has fewer if and only if that is true, and Black if and only if that is
pub record AreShort (o : List Bool) (T : Sketch) (s : Shorts) : Type 0 where
  pub white : s.white ≡ is_short o T White
  pub black : s.black ≡ is_short o T Black

abbrev pub of_side : Shorts → Colour → Bool
of_side s White = s.white
of_side s Black = s.black

-- one figure more is one of at most 32, or there can be none
unfoldable pub has_room : Shorts → Sketch → Bool
has_room s T = nat_lt (length T) 32 || not (s.white || s.black)

-- somebody can have been taken, if the step took one
abbrev pub takes_so : Shorts → Figure → Victim → Bool
takes_so s f Nobody = true
takes_so s f TakenPawn = of_side s (opponent f.colour)
takes_so s f TakenBishop = of_side s (opponent f.colour)
takes_so s f TakenOther = of_side s (opponent f.colour)
takes_so s f PassedPawn = of_side s (opponent f.colour)
