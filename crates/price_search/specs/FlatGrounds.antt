-- Inner: no public clause cites this file.
-- What is known of a side at flat prices.
use Rattle.std.specs.Prelude.{ℕ, ◌≡◌, Bool, List}
use Rattle.board_base.specs.Board.{array_of}
use Rattle.balance_rule.specs.Balance.{gone_row}
use Rattle.balance_rule.specs.Grounds.{IsGround}
use Rattle.balance_rule.specs.declared.grounds.Ground.{Ground}
use Rattle.price_search.specs.FlatPrices.{flat_prices}
use Rattle.price_search.specs.declared.payers.Payers.{Payers}

-- the ground is one at these flat prices in games at the odds o, and these are the costs of the men who are gone
pub record IsFlatGround (payers : Payers) (o : List Bool) (g : Ground) (lost : List ℕ) : Type 0 where
  pub known : IsGround o (flat_prices payers) g
  pub gone_is : lost ≡ gone_row (flat_prices payers) g.frozen g.side (array_of o)
