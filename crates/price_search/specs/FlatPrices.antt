-- Queries that the balance of captures closes at flat prices.
use Rattle.std.specs.Prelude.{ℕ, ◌≡◌, Bool, IsTrue, List, [], replicate}
use Rattle.board_base.specs.Board.{is_in}
use Rattle.query_base.specs.Asked.{Asked}
use Rattle.cage_rules.specs.Frozen.{IsAsArray, IsFrozen}
use Rattle.capture_prices.specs.Prices.{PriceList, priced}
use Rattle.balance_rule.specs.Balance.{BalanceSupports}
use Rattle.price_search.specs.declared.payers.Payers.{Payers}
use Rattle.price_search.specs.declared.payers.Payers.TheVariants.{Both, WhiteAlone, BlackAlone}

-- Flat prices: each capture by a pawn has the price 24, or each by a pawn of one side alone, and there are no gates.
abbrev pub flat_prices : Payers → PriceList
flat_prices Both = priced (replicate 16 24) (replicate 16 24) []
flat_prices WhiteAlone = priced (replicate 16 24) (replicate 16 0) []
flat_prices BlackAlone = priced (replicate 16 0) (replicate 16 24) []

-- the same with 1 in the place of 24
abbrev pub once_prices : Payers → PriceList
once_prices Both = priced (replicate 16 1) (replicate 16 1) []
once_prices WhiteAlone = priced (replicate 16 1) (replicate 16 0) []
once_prices BlackAlone = priced (replicate 16 0) (replicate 16 1) []

-- If the prices are flat with 24 for a capture, those with 1 in its place don't support the query with this set.
abbrev pub AreLow : Asked → List Bool → PriceList → Type 0
AreLow q set p = (payers : Payers) → p ≡ flat_prices payers → BalanceSupports q set (once_prices payers) → ⊥

-- Some flat prices support the query with a set that holds each other one which is frozen and as in the array at its odds.
pub record FlatPricesSupport (q : Asked) : Type 0 where
  pub set : List Bool
  pub greatest : (other : List Bool) → IsFrozen q other → IsAsArray q.odds q.board other → (s : ℕ) → IsTrue (is_in other s) → IsTrue (is_in set s)
  pub payers : Payers
  pub supports : BalanceSupports q set (flat_prices payers)
