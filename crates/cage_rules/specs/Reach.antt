-- Games that lead to the board of a query, from the array without the men on the squares of o.
use Rattle.std.specs.Prelude.{◌≡◌, Bool, IsTrue, List}
use Rattle.board_base.specs.Game.{IsGame, board_after, unmoved}
use Rattle.board_base.specs.Rights.{holds}
use Rattle.board_base.specs.declared.moves.Move.{Move}
use Rattle.board_base.specs.declared.castles.Castle.{Castle}
use Rattle.query_base.specs.Asked.{Asked}

-- The game ends with the query's board. The king and the rook of each castling that is held have not moved (article 3.8.2.1), and
-- the rook was not captured. A game that reaches the query does so with the query's odds as o, whoever is to move and whatever was
-- the last move.
pub record LeadsTo (o : List Bool) (g : List Move) (q : Asked) : Type 0 where
  pub game : IsGame o g
  pub board : board_after o g ≡ q.board
  pub held : (x : Castle) → IsTrue (holds q.held x) → IsTrue (unmoved o g x)
