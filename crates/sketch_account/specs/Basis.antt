-- What an account stands on, and when it is above 0.
use Rattle.std.specs.Prelude.{ℕ, ◌≤◌, Bool, List, length}
use Rattle.std.specs.List.{filter}
use Rattle.board_base.specs.Board.{array_of}
use Rattle.board_base.specs.Rights.{Rights}
use Rattle.board_base.specs.declared.men.Colour.{Colour}
use Rattle.board_base.specs.declared.men.Colour.TheVariants.{White, Black}
use Rattle.balance_rule.specs.Balance.{men_on}
use Rattle.capture_prices.specs.Prices.{PriceList}
use Rattle.figures.specs.Figures.{Sketch}
use Rattle.sketch_grounds.specs.Account.{CostTooMuch, Counted, against, by_marks, figures_cost, is_figure_of}
use Rattle.sketch_grounds.specs.Zones.{room_past}
use Rattle.sketch_grounds.specs.FrozenSets.{greatest_frozen}
use Rattle.sketch_grounds.specs.LeastZones.{pair_zones}

-- the odds, prices, the squares of men who stay, and zones of pawns
pub record Basis : Type 0 where
  pub odds : List Bool
  pub prices : PriceList
  pub wall : List Bool
  pub zones : List (List Bool)

-- the side has no more figures than men in the array
abbrev pub AreFew : Basis → List Counted → Colour → Type 0
AreFew b xs c = length (filter (is_figure_of c) xs) ≤ men_on c (array_of b.odds)

-- the least that its men cost
abbrev pub cost_on : Basis → List Counted → Colour → ℕ
cost_on b xs c = figures_cost b.odds b.prices b.wall (room_past b.wall b.zones) xs c

-- No side has more figures than men in the array, and the figures, each with what is known of him, cost more than their true homes can.
pub record IsAbove (b : Basis) (xs : List Counted) : Type 0 where
  pub white : AreFew b xs White
  pub black : AreFew b xs Black
  pub above : CostTooMuch b.odds b.prices b.wall (room_past b.wall b.zones) xs

-- the sketch's own: its greatest frozen set, and beside it the zones of exactly two squares
abbrev pub basis_of : List Bool → Rights → Sketch → PriceList → Basis
basis_of o held S p = record { odds = o; prices = p; wall = greatest_frozen held S; zones = pair_zones (greatest_frozen held S) S }

-- the account of the sketch is above 0
abbrev pub IsClosedAt : List Bool → Rights → Sketch → PriceList → Type 0
IsClosedAt o held S p = IsAbove (basis_of o held S p) (by_marks S)

-- it is if what a mark would say of the figure with number i is false
abbrev pub IsForcedAt : List Bool → Rights → ℕ → Sketch → PriceList → Type 0
IsForcedAt o held i S p = IsAbove (basis_of o held S p) (against i S)
