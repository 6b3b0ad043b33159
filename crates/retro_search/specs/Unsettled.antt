-- What a search by rule lines and by the balance of captures leaves open.
use Rattle.std.specs.Prelude.{ℕ, zero, suc, ◌≡◌, ◌≤◌, ◌⊎◌, List, [], ◌∷◌, length}
use Rattle.std.specs.List.{Contains}
use Rattle.board_base.specs.declared.moves.Move.{Move}
use Rattle.board_base.specs.declared.unmoves.Unmove.{Unmove}
use Rattle.query_base.specs.Asked.{Asked}
use Rattle.query_base.specs.Reach.{Contradicts, Reaches}
use Rattle.query_base.specs.Targets.{target}
use Rattle.query_base.specs.declared.claims.Claim.{Claim}
use Rattle.unmove_gen.specs.Listed.{unmoves}
use Rattle.unmove_gen.specs.Predecessor.{predecessor}
use Rattle.price_search.specs.FlatPrices.{FlatPricesSupport}
use Rattle.retro_search.specs.Refutable.{IsRefutable, IsShut}
use Rattle.retro_search.specs.Costs.{IsCost}
use Rattle.retro_search.specs.Lines.{EndsAtArray, forwards}

-- A line of listed unmoves, of at most the depth, on which no query is shut: no rule line supports it, and none before it on the line
-- covers it. A shorter line ends at the array, and there alone the game of no moves reaches a query.
abbrev pub IsOpenLine : Asked → ℕ → List Asked → List Unmove → Type 0
IsOpenLine q depth ancestors [] = (IsShut q ancestors → ⊥) × ((depth ≡ 0) ⊎ Reaches [] q)
IsOpenLine q zero ancestors (u ∷ line) = ⊥
IsOpenLine q (suc depth) ancestors (u ∷ line) =
    (IsShut q ancestors → ⊥) × (Reaches [] q → ⊥) × Contains (unmoves q) u × IsOpenLine (predecessor q u) depth (q ∷ ancestors) line

-- flat prices support no query on the line
abbrev pub IsUnpriced : Asked → List Unmove → Type 0
IsUnpriced q [] = FlatPricesSupport q → ⊥
IsUnpriced q (u ∷ line) = (FlatPricesSupport q → ⊥) × IsUnpriced (predecessor q u) line

-- The query isn't refutable at the depth by rule lines, and this line is open: it has as many unmoves as the depth, and ends elsewhere
-- than at the array.
pub record StaysUnsettled (line : List Unmove) (q : Asked) (depth : ℕ) : Type 0 where
  pub unrefuted : IsRefutable q depth [] → ⊥
  pub open_line : IsOpenLine q depth [] line
  pub long : length line ≡ depth
  pub elsewhere : EndsAtArray q line → ⊥

-- An open line of the claim's target ends at the array, and this game is that line forwards. It contradicts the claim, and has no more
-- moves than the depth. The target is refutable at no depth by rule lines.
pub record IsAgainst (game : List Move) (claim : Claim) (q : Asked) (depth : ℕ) : Type 0 where
  pub line : List Unmove
  pub open_line : IsOpenLine (target q claim) depth [] line
  pub at_array : EndsAtArray (target q claim) line
  pub forwards_is : game ≡ forwards line
  pub contradicts : Contradicts game claim q
  pub short : length game ≤ depth
  pub unrefuted : (more : ℕ) → IsRefutable (target q claim) more [] → ⊥

-- where the query is refutable by rule lines at some depth up to this one, this holds of its cost there
abbrev pub WhereRefutable : Asked → ℕ → (ℕ → Type 0) → Type 0
WhereRefutable q depth P = (k n : ℕ) → k ≤ depth → IsRefutable q k [] → IsCost q k [] n → P n
