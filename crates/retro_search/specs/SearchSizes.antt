-- How large a whole search is.
use Rattle.std.specs.Prelude.{ℕ, zero, suc, ◌+◌, ◌≡◌, ◌<◌, ◌⊎◌, List, [], ◌∷◌}
use Rattle.board_base.specs.declared.unmoves.Unmove.{Unmove}
use Rattle.query_base.specs.Asked.{Asked}
use Rattle.query_base.specs.Reach.{Reaches}
use Rattle.unmove_gen.specs.Listed.{unmoves}
use Rattle.unmove_gen.specs.Predecessor.{predecessor}
use Rattle.retro_search.specs.Refutable.{IsShut}

-- n is the sum of the numbers that the unmoves have by R
abbrev pub SumsAll : (Unmove → ℕ → Type 0) → List Unmove → ℕ → Type 0
SumsAll R [] n = n ≡ 0
SumsAll R (u ∷ us) n = (a : ℕ) × (b : ℕ) × R u a × SumsAll R us b × (n ≡ a + b)

-- The size of the whole search of a query: 1 where it is shut, the depth is 0, or the game of no moves reaches it; else 1 and the sizes
-- of the searches of all its predecessors.
abbrev pub IsSearchSize : Asked → ℕ → List Asked → ℕ → Type 0
IsSearchSize q zero ancestors n = n ≡ 1
IsSearchSize q (suc depth) ancestors n =
    ((IsShut q ancestors ⊎ Reaches [] q) × (n ≡ 1))
    ⊎ ((IsShut q ancestors → ⊥) × (Reaches [] q → ⊥) × ((m : ℕ) × SumsAll (λ u. IsSearchSize (predecessor q u) depth (q ∷ ancestors)) (unmoves q) m × (n ≡ 1 + m)))

-- the whole search of the query to the depth is larger than the nodes
abbrev pub IsLargeSearch : Asked → ℕ → ℕ → Type 0
IsLargeSearch q depth nodes = (n : ℕ) → IsSearchSize q depth [] n → nodes < n
