-- How many queries a search visits that keeps nothing.
use Rattle.std.specs.Prelude.{ℕ, zero, suc, ◌+◌, ◌≡◌, ◌⊎◌, List, [], ◌∷◌}
use Rattle.board_base.specs.declared.unmoves.Unmove.{Unmove}
use Rattle.query_base.specs.Asked.{Asked}
use Rattle.query_base.specs.Reach.{Reaches}
use Rattle.unmove_gen.specs.Listed.{unmoves}
use Rattle.unmove_gen.specs.Predecessor.{predecessor}
use Rattle.retro_search.specs.Refutable.{IsRefutable, IsShut}

-- n is the sum of the numbers that the unmoves have by R, in order, up to and with the first of which P doesn't hold
abbrev pub SumsUpTo : (Unmove → ℕ → Type 0) → (Unmove → Type 0) → List Unmove → ℕ → Type 0
SumsUpTo R P [] n = n ≡ 0
SumsUpTo R P (u ∷ us) n = (a : ℕ) × R u a × (((P u → ⊥) × (n ≡ a)) ⊎ (P u × ((b : ℕ) × SumsUpTo R P us b × (n ≡ a + b))))

-- The cost of a query: 1 where it is shut, the depth is 0, or the game of no moves reaches it; else 1 and the costs of the
-- predecessors in order, up to and with the first that isn't refutable.
abbrev pub IsCost : Asked → ℕ → List Asked → ℕ → Type 0
IsCost q zero ancestors n = n ≡ 1
IsCost q (suc depth) ancestors n =
    ((IsShut q ancestors ⊎ Reaches [] q) × (n ≡ 1))
    ⊎ ((IsShut q ancestors → ⊥) × (Reaches [] q → ⊥) × ((m : ℕ) × SumsUpTo (λ u. IsCost (predecessor q u) depth (q ∷ ancestors)) (λ u. IsRefutable (predecessor q u) depth (q ∷ ancestors)) (unmoves q) m × (n ≡ 1 + m)))
