-- Inner: no public clause cites this file.
-- The squares of the kings, kept beside a board.
use Rattle.std.specs.Prelude.{Bool, List, map}
use Rattle.board_base.specs.Board.{Places, is_a}
use Rattle.board_base.specs.declared.men.Kind.TheVariants.{King}

-- the set of the squares where kings stand, of either colour
abbrev pub kings_on : Places → List Bool
kings_on board = map (is_a King) board
