-- Prices by the squares as a side sees them.
use Rattle.std.specs.Prelude.{ℕ, ◌≡◌, ◌<◌, ◌≤◌, Bool, List, slice_index}
use Rattle.board_base.specs.declared.men.Colour.{Colour}
use Rattle.capture_prices.specs.Prices.{PriceList, gate, take}
use Rattle.balance_rule.specs.Costs.{earned}
use Rattle.balance_rule.specs.LeastWays.{seen_by}
use Rattle.balance_rule.specs.declared.tariffs.Tariff.{Tariff}

-- the numbers of the square with number i
pub record IsTariffAt (p : PriceList) (set : List Bool) (c : Colour) (t : Tariff) (i : ℕ) : Type 0 where
  pub take_is : slice_index t.take i ≡ take p c (seen_by c i)
  pub gate_is : slice_index t.gate i ≡ gate p (seen_by c i)
  pub earned_is : slice_index t.earned i ≡ earned p set c (seen_by c i)
  pub take_small : slice_index t.take i ≤ 96
  pub gate_small : slice_index t.gate i ≤ 96
  pub earned_small : slice_index t.earned i ≤ 96

-- what this side's pawns pay for a capture on each square, and for treading it where they never capture, and what its men earn there
abbrev pub IsTariff : PriceList → List Bool → Colour → Tariff → Type 0
IsTariff p set c t = (i : ℕ) → i < 64 → IsTariffAt p set c t i
