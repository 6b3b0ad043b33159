-- What is counted of games.
use Rattle.std.specs.Prelude.{ℕ, suc, ◌+◌, ◌≡◌, ◌⊎◌, List, [], ◌∷◌, ◌++◌, length}
use Rattle.std.specs.List.{Contains}
use Rattle.board_base.specs.Board.{no_odds}
use Rattle.board_base.specs.declared.moves.Move.{Move}
use Rattle.unmove_gen.specs.Listed.{unmoves}
use Rattle.unmove_gen.specs.Predecessor.{unmove_after}
use Rattle.position_maker.specs.Positions.{query_after}

-- how many unmoves the positions have that follow g, one after each of these moves
abbrev pub unmoves_along : List Move → List Move → ℕ
unmoves_along g [] = 0
unmoves_along g (m ∷ ms) = length (unmoves (query_after (g ++ m ∷ []))) + unmoves_along (g ++ m ∷ []) ms

-- the move just played is among the unmoves of the position after it
abbrev pub IsFound : List Move → Move → Type 0
IsFound g m = Contains (unmoves (query_after (g ++ m ∷ []))) (unmove_after no_odds g m)

-- n of these moves, which follow g, aren't found among the unmoves of the positions after them
abbrev pub AreMissing : List Move → List Move → ℕ → Type 0
AreMissing g [] n = n ≡ 0
AreMissing g (m ∷ ms) n =
    (IsFound g m × AreMissing (g ++ m ∷ []) ms n) ⊎ ((IsFound g m → ⊥) × ((k : ℕ) × AreMissing (g ++ m ∷ []) ms k × (n ≡ suc k)))

-- n moves of these games aren't found
abbrev pub AreMissingInAll : List (List Move) → ℕ → Type 0
AreMissingInAll [] n = n ≡ 0
AreMissingInAll (g ∷ gs) n = (a : ℕ) × (b : ℕ) × AreMissing [] g a × AreMissingInAll gs b × (n ≡ a + b)

-- how many moves the games have
abbrev pub plies_of : List (List Move) → ℕ
plies_of [] = 0
plies_of (g ∷ gs) = length g + plies_of gs

-- how many unmoves the positions of the games have, one after each move
abbrev pub unmoves_of_all : List (List Move) → ℕ
unmoves_of_all [] = 0
unmoves_of_all (g ∷ gs) = unmoves_along [] g + unmoves_of_all gs
