-- When a claim of several steps holds.
use Rattle.std.specs.Prelude.{◌≡◌, ◌≤◌, Bool, IsTrue, List, ◌∷◌, ◌++◌, length, Some, slice_get}
use Rattle.board_base.specs.Game.{unmoved}
use Rattle.board_base.specs.declared.moves.Move.{Move}
use Rattle.board_base.specs.declared.unmoves.Unmove.{Unmove}
use Rattle.query_base.specs.Asked.{Asked}
use Rattle.query_base.specs.Reach.{Reaches}
use Rattle.unmove_gen.specs.Predecessor.{unmove_after}
use Rattle.line_claims.specs.declared.claims.LineClaim.{LineClaim}
use Rattle.line_claims.specs.declared.claims.LineClaim.TheVariants.{NotBoth, Line}

-- The game, at the odds o, has at least as many moves as there are steps. The unmoves of its last moves, the last move's first,
-- are the steps: a move with so many moves after it is that of the step with so many steps before it.
pub record EndsBy (o : List Bool) (g : List Move) (steps : List Unmove) : Type 0 where
  pub long : length steps ≤ length g
  pub same : (before after : List Move) (m : Move) (u : Unmove) → g ≡ before ++ m ∷ after → slice_get steps (length after) ≡ Some u → unmove_after o before m ≡ u

-- No game that reaches the query leaves both castlings unmoved (article 3.8.2.1); or each game that reaches it ends by the steps.
abbrev pub HoldsLine : LineClaim → Asked → Type 0
HoldsLine (NotBoth x y) q = (g : List Move) → Reaches g q → IsTrue (unmoved q.odds g x) → IsTrue (unmoved q.odds g y) → ⊥
HoldsLine (Line steps) q = (g : List Move) → Reaches g q → EndsBy q.odds g steps
