-- Which of the retractions that are left some game ends with.
use Rattle.std.specs.Prelude.{◌≡◌, ◌≤◌, ◌⊎◌, ◌↔◌, List, [], ◌∷◌, ◌++◌, length, Option, Some, None}
use Rattle.std.specs.List.{Contains}
use Rattle.board_base.specs.declared.moves.Move.{Move}
use Rattle.board_base.specs.declared.unmoves.Unmove.{Unmove}
use Rattle.query_base.specs.Asked.{Asked}
use Rattle.query_base.specs.Reach.{Reaches}
use Rattle.unmove_gen.specs.Predecessor.{unmove_after}
use Rattle.claim_findings.specs.Games.{IsEndIn}

-- some game that reaches the query ends with the move of this unmove, and that move captured what the unmove says
abbrev pub IsEnd : Asked → Unmove → Type 0
IsEnd q u = (g : List Move) × Reaches (g ++ u.mv ∷ []) q × (unmove_after q.odds g u.mv ≡ u)

-- the ends are those of these unmoves with which one of the games ends, in order
abbrev pub AreEnds : List (List Move) → Asked → List Unmove → List Unmove → Type 0
AreEnds games q [] ends = ends ≡ []
AreEnds games q (u ∷ us) ends =
    (others : List Unmove) × AreEnds games q us others × (((IsEndIn games q u → ⊥) × (ends ≡ others)) ⊎ (IsEndIn games q u × (ends ≡ u ∷ others)))

-- One to eight unmoves are left, and the game of no moves doesn't reach the query.
pub record HasFewLeft (q : Asked) (left : List Unmove) : Type 0 where
  pub some : 1 ≤ length left
  pub few : length left ≤ 8
  pub elsewhere : Reaches [] q → ⊥

-- These are those of the unmoves left with which one of these games ends. If they are all of them, they are exactly the ends of the games
-- that reach the query.
pub record AreEndsFound (q : Asked) (games : List (List Move)) (left ends : List Unmove) : Type 0 where
  pub are : AreEnds games q left ends
  pub whole : length ends ≡ length left → (u : Unmove) → Contains left u ↔ IsEnd q u

-- what was found of the ends: where few are left those of the games, else nothing
pub record HasEnds (q : Asked) (games : List (List Move)) (left : List Unmove) (found : Option (List Unmove)) : Type 0 where
  pub few : HasFewLeft q left → (ends : List Unmove) × AreEndsFound q games left ends × (found ≡ Some ends)
  pub none : (HasFewLeft q left → ⊥) → found ≡ None
