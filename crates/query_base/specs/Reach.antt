-- Which games reach a query, and which contradict a claim about it.
use Rattle.std.specs.Prelude.{◌≡◌, Bool, ◌&&◌, IsTrue, IfSome, List, Some}
use Rattle.board_base.specs.Board.{AreOdds, at, is_a}
use Rattle.board_base.specs.Rights.{holds}
use Rattle.board_base.specs.Game.{IsGame, board_after, turn_after, last_move, legal_after, unmoved}
use Rattle.board_base.specs.Legal.{pawn_captures_en_passant}
use Rattle.board_base.specs.declared.men.Kind.TheVariants.{Pawn}
use Rattle.board_base.specs.declared.moves.Move.{Move}
use Rattle.board_base.specs.declared.castles.Castle.{Castle}
use Rattle.play_rules.specs.Clocks.{clock_after}
use Rattle.query_base.specs.Asked.{Asked}
use Rattle.query_base.specs.declared.claims.Claim.{Claim}
use Rattle.query_base.specs.declared.claims.Claim.TheVariants.{Illegal, Last, Lost, Ep}

-- the game has a last move, and it is this one
abbrev pub EndsWith : List Move → Move → Type 0
EndsWith g m = last_move g ≡ Some m

-- The game begins from the array without the men on the squares of the query's odds, homes of men who may be left out. It
-- ends with the query's board and side to move. The king and the rook of each castling that is held have not moved
-- (article 3.8.2.1), and the rook was not captured. If a last move is demanded, the game ends with it, and a pawn stands on
-- its target; if a move is barred, the game has no move or ends with another. If a clock is demanded, so many moves were
-- made since the last of a pawn or with a capture (article 9.3).
pub record Reaches (g : List Move) (q : Asked) : Type 0 where
  pub odds : AreOdds q.odds
  pub game : IsGame q.odds g
  pub board : board_after q.odds g ≡ q.board
  pub turn : turn_after g ≡ q.turn
  pub held : (x : Castle) → IsTrue (holds q.held x) → IsTrue (unmoved q.odds g x)
  pub only : IfSome q.only (λ m. EndsWith g m × IsTrue (is_a Pawn (at q.board m.to)))
  pub barred : IfSome q.barred (λ m. EndsWith g m → ⊥)
  pub clock : IfSome q.clock (λ n. clock_after q.odds g ≡ n)

-- Article 3.7.3: after these moves, at these odds, the move is legal, and it is a capture en passant
abbrev pub captures_en_passant : List Bool → List Move → Move → Bool
captures_en_passant o g m = legal_after o g m && pawn_captures_en_passant (board_after o g) (turn_after g) (last_move g) m

-- The game reaches the query, and what is claimed of it is false: that there is none; that it ends with this move; that the king
-- or the rook of this castling has moved, or the rook was captured or left out; that this move is a legal capture en passant after it.
abbrev pub Contradicts : List Move → Claim → Asked → Type 0
Contradicts g Illegal q = Reaches g q
Contradicts g (Last m) q = Reaches g q × (EndsWith g m → ⊥)
Contradicts g (Lost x) q = Reaches g q × IsTrue (unmoved q.odds g x)
Contradicts g (Ep m) q = Reaches g q × (IsTrue (captures_en_passant q.odds g m) → ⊥)

-- no list of moves, of any length, contradicts the claim; of Illegal this says that the position is illegal (article 3.10.3)
abbrev pub Holds : Claim → Asked → Type 0
Holds claim q = (g : List Move) → Contradicts g claim q → ⊥
