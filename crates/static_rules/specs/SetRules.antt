-- The rules on promoted men and on captures by pawns.
use Rattle.std.specs.Prelude.{◌≡◌, ◌≤◌, Bool, List, length, ℤ}
use Rattle.board_base.specs.Potentials.{ArePotentials, duals}
use Rattle.board_base.specs.declared.men.Colour.{Colour}
use Rattle.query_base.specs.Asked.{Asked}
use Rattle.cage_rules.specs.Frozen.{IsAsArray, IsFrozen}
use Rattle.cage_rules.specs.Refuted.{HasTooMany, NeedTooMany}
use Rattle.pawn_assign.specs.PawnCosts.{pawn_squares}

-- a set of squares, which is frozen and isn't as in the array without the men on the squares of o
pub record FrozenSupports (o : List Bool) (q : Asked) (set : List Bool) : Type 0 where
  pub whole : length set ≡ 64
  pub frozen : IsFrozen q set
  pub changed : IsAsArray o q.board set → ⊥

-- a set of squares, which is frozen and as in the array without the men on the squares of o
pub record IsSettled (o : List Bool) (q : Asked) (set : List Bool) : Type 0 where
  pub whole : length set ≡ 64
  pub frozen : IsFrozen q set
  pub as_array : IsAsArray o q.board set

-- The side has as many pawns as there are u, at most eight, and the potentials are bounded by the pawns' costs and sum to too much.
pub record IsAbove (o : List Bool) (q : Asked) (side : Colour) (set : List Bool) (u v : List ℤ) : Type 0 where
  pub pawns : length (pawn_squares side q.board) ≡ length u
  pub eight : length u ≤ 8
  pub needs : NeedTooMany o q set side u v

-- the rule on promoted men
pub record PromoSupports (o : List Bool) (q : Asked) (side : Colour) (set : List Bool) : Type 0 where
  pub settled : IsSettled o q set
  pub more : HasTooMany o q set side

-- the rule on captures by pawns
pub record CapsSupports (o : List Bool) (q : Asked) (side : Colour) (set : List Bool) (u v : List ℤ) : Type 0 where
  pub settled : IsSettled o q set
  pub numbers : ArePotentials (duals u v)
  pub above : IsAbove o q side set u v
