-- Sketches that an account closes, so that no game has a moment that they fit, and marks that an account forces.
use Rattle.std.specs.Prelude.{ℕ, Bool, List}
use Rattle.board_base.specs.Rights.{Rights}
use Rattle.capture_prices.specs.Prices.{PriceList}
use Rattle.past_sketches.specs.Figures.{Sketch}
use Rattle.past_account.specs.Account.{IsClosedBy, IsForcedBy}
use Rattle.past_account.specs.Frozen.{AreBegun, IsFrozenIn}

-- Beside a frozen set the figures cost too much for some prices, or the array hasn't men on the set whom its figures may stand for.
pub data Closes (o : List Bool) (held : Rights) (S : Sketch) : Type 0 where
  costs : (set : List Bool) (zones : List (List Bool)) (p : PriceList) → IsFrozenIn held S set → IsClosedBy o S set zones p → Closes o held S
  foreign : (set : List Bool) → IsFrozenIn held S set → (AreBegun o S set → ⊥) → Closes o held S

-- Beside a frozen set the figures cost too much for some prices if what a mark would say of the figure with this number is false.
pub record Forces (o : List Bool) (held : Rights) (i : ℕ) (S : Sketch) : Type 0 where
  pub set : List Bool
  pub zones : List (List Bool)
  pub prices : PriceList
  pub frozen : IsFrozenIn held S set
  pub forced : IsForcedBy o S set zones prices i
