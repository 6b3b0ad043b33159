-- The line of unmoves at which a refutation fails first.
use Rattle.std.specs.Prelude.{ℕ, zero, suc, ◌≡◌, List, [], ◌∷◌, ◌++◌, map, reverse}
use Rattle.std.specs.List.{Contains}
use Rattle.board_base.specs.declared.moves.Move.{Move}
use Rattle.board_base.specs.declared.unmoves.Unmove.{Unmove}
use Rattle.query_base.specs.Asked.{Asked}
use Rattle.query_base.specs.Reach.{Reaches}
use Rattle.unmove_gen.specs.Listed.{unmoves}
use Rattle.unmove_gen.specs.Predecessor.{predecessor, left_by}
use Rattle.retro_search.specs.Refutable.{IsRefutable}

-- this unmove is the first of which P doesn't hold
abbrev pub IsFirstNot : (Unmove → Type 0) → List Unmove → Unmove → Type 0
IsFirstNot P us u =
    (before : List Unmove) × (after : List Unmove) × (us ≡ before ++ u ∷ after) × ((v : Unmove) → Contains before v → P v) × (P u → ⊥)

-- The first open line of a query that isn't refutable: it is empty where the depth is 0 or the game of no moves reaches the query;
-- else its first unmove is the first whose predecessor isn't refutable at one less, and the first open line of that one follows.
abbrev pub IsFirstOpen : Asked → ℕ → List Asked → List Unmove → Type 0
IsFirstOpen q zero ancestors line = line ≡ []
IsFirstOpen q (suc depth) ancestors [] = Reaches [] q
IsFirstOpen q (suc depth) ancestors (u ∷ line) =
    (Reaches [] q → ⊥) × IsFirstNot (λ v. IsRefutable (predecessor q v) depth (q ∷ ancestors)) (unmoves q) u × IsFirstOpen (predecessor q u) depth (q ∷ ancestors) line

-- the game of no moves reaches the query before these unmoves
abbrev pub EndsAtArray : Asked → List Unmove → Type 0
EndsAtArray q line = Reaches [] (left_by q line)

-- the moves of a line, as a game makes them
abbrev pub forwards : List Unmove → List Move
forwards line = reverse (map (λ u. u.mv) line)
