-- What the sentences about last moves say.
use Rattle.std.specs.Prelude.{ℕ, ◌≡◌, List, [], ◌∷◌, ◌++◌, length}
use Rattle.std.specs.List.{Contains}
use Rattle.board_base.specs.declared.moves.Move.{Move}
use Rattle.board_base.specs.declared.unmoves.Unmove.{Unmove}
use Rattle.query_base.specs.Asked.{Asked}
use Rattle.query_base.specs.Reach.{Reaches}
use Rattle.unmove_gen.specs.Listed.{unmoves}
use Rattle.unmove_gen.specs.Predecessor.{unmove_after}
use Rattle.line_claims.specs.Holding.{HoldsLine}
use Rattle.line_claims.specs.declared.claims.LineClaim.TheVariants.{Line}

-- The last moves were these, the last one first: each game that reaches the query ends by them, and they captured what is said.
abbrev pub WereLast : Asked → List Unmove → Type 0
WereLast q steps = HoldsLine (Line steps) q

-- the last move of each game that reaches the query, and has one, is one of these, and captured what is said
abbrev pub EndsWithOneOf : Asked → List Unmove → Type 0
EndsWithOneOf q left = (g : List Move) (m : Move) → Reaches (g ++ m ∷ []) q → Contains left (unmove_after q.odds g m)

-- The last move was one of these: each game that reaches the query has a last move, and it is one of them.
pub record WasOneOf (q : Asked) (left : List Unmove) : Type 0 where
  pub some : Reaches [] q → ⊥
  pub among : EndsWithOneOf q left

-- So many of all retractions remain: these are as many, and the last move of each game that reaches the query, and has one, is one of them.
pub record Remain (q : Asked) (left : List Unmove) (n all : ℕ) : Type 0 where
  pub number : length left ≡ n
  pub whole : length (unmoves q) ≡ all
  pub among : EndsWithOneOf q left

-- a game that reaches the query ends with the move of this retraction, and it captured what is said
abbrev pub IsEnd : Asked → Unmove → Type 0
IsEnd q u = (g : List Move) × Reaches (g ++ u.mv ∷ []) q × (unmove_after q.odds g u.mv ≡ u)
