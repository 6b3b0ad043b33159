-- Boards that sketches may be asked about.
use Rattle.std.specs.Prelude.{◌≤◌, Bool, List}
use Rattle.board_base.specs.Board.{Places, array_of}
use Rattle.board_base.specs.declared.men.Colour.TheVariants.{White, Black}
use Rattle.men_account.specs.Account.{is_any}
use Rattle.men_account.specs.Homes.{men_of}
use Rattle.play_rules.specs.Kings.{HasOneKingEach}
use Rattle.play_rules.specs.Laws.{HasNoPawnOnEnds}

-- each side has one king, and no more men than the array at these odds; no pawn stands on rank 1 or 8
pub record IsRoot (o : List Bool) (board : Places) : Type 0 where
  pub kings : HasOneKingEach board
  pub ranks : HasNoPawnOnEnds board
  pub white : men_of White is_any board ≤ men_of White is_any (array_of o)
  pub black : men_of Black is_any board ≤ men_of Black is_any (array_of o)
