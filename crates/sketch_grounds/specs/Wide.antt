-- Zones that single steps can bar.
use Rattle.std.specs.Prelude.{ℕ, ◌≡◌, ◌<◌, IsTrue, Bool, List}
use Rattle.std.specs.List.{Contains}
use Rattle.board_base.specs.Board.{is_in}
use Rattle.play_rules.specs.Reach.{IsWithin}

-- each zone has more than one square, and all of its squares are in the set
pub record AreWide (zones : List (List Bool)) (squares : List Bool) : Type 0 where
  pub wide : (zone : List Bool) → Contains zones zone → (u : ℕ) → ((t : ℕ) → t < 64 → IsTrue (is_in zone t) → t ≡ u) → ⊥
  pub covered : (zone : List Bool) → Contains zones zone → IsWithin zone squares
