-- Inner: no public clause cites this file.
-- The squares of the men of each side.
use Rattle.std.specs.Prelude.{◌≡◌}
use Rattle.board_base.specs.Board.{Places, men_squares}
use Rattle.board_base.specs.declared.men.Colour.TheVariants.{White, Black}
use Rattle.price_search.specs.declared.standing.StandingMen.{StandingMen}

-- these are the squares of the men on the board
pub record AreStanding (board : Places) (men : StandingMen) : Type 0 where
  pub white : men.white.items ≡ men_squares White board
  pub black : men.black.items ≡ men_squares Black board
