-- Inner: no public clause cites this file.
-- Rule lines by what they speak of.
use Rattle.std.specs.Prelude.{Bool, List, [], ◌∷◌}
use Rattle.board_base.specs.Potentials.{Duals}
use Rattle.board_base.specs.declared.men.Colour.{Colour}
use Rattle.board_base.specs.declared.men.Colour.TheVariants.{White, Black}
use Rattle.query_base.specs.Asked.{Asked}
use Rattle.query_base.specs.declared.rule_lines.RuleLine.{RuleLine}
use Rattle.query_base.specs.declared.rule_lines.RuleLine.TheVariants.{Kings, Ranks, Check, Rights, Count, Frozen, Caps, Promo}
use Rattle.static_rules.specs.Supports.{Supports}

-- those that have neither sets nor numbers
abbrev pub simple : List RuleLine
simple = Kings ∷ Ranks ∷ Check ∷ Rights ∷ Count White ∷ Count Black ∷ []

-- no rule line on a frozen set supports the query
abbrev pub HasNoFrozenLine : Asked → Type 0
HasNoFrozenLine q = (set : List Bool) → Supports q (Frozen set) → ⊥

-- nor does one on promoted men
abbrev pub HasNoPromoLine : Asked → Colour → Type 0
HasNoPromoLine q side = (set : List Bool) → Supports q (Promo side set) → ⊥

-- nor one on captures by pawns
abbrev pub HasNoCapsLine : Asked → Colour → Type 0
HasNoCapsLine q side = (set : List Bool) (p : Duals) → Supports q (Caps side set p) → ⊥

-- nor any that asks for a set which is frozen and as in the array at the query's odds
pub record HasNoSettledLine (q : Asked) : Type 0 where
  pub promo : (side : Colour) → HasNoPromoLine q side
  pub caps : (side : Colour) → HasNoCapsLine q side
