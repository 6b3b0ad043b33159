-- Inner: no public clause cites this file.
-- Of whom a supposition says something, what is kept of a side, and what both sides cost if captures are dearer.
use Rattle.std.specs.Prelude.{ℕ, ◌≡◌, ◌+◌, ◌<◌, Bool, List, length}
use Rattle.board_base.specs.Board.{Places, opponent}
use Rattle.board_base.specs.declared.men.Colour.{Colour}
use Rattle.board_base.specs.declared.men.Colour.TheVariants.{White, Black}
use Rattle.capture_prices.specs.Prices.{PriceList}
use Rattle.assignment.specs.Tables.{cost_at}
use Rattle.query_base.specs.Asked.{Asked}
use Rattle.ledger_facts.specs.Accounts.{raised, side_cost_if}
use Rattle.ledger_facts.specs.declared.suppositions.Squares.{Squares}
use Rattle.ledger_facts.specs.declared.suppositions.Supposition.{Supposition}
use Rattle.ledger_facts.specs.declared.suppositions.Supposition.TheVariants.{Began, Went, Stands, Gone, AtMost, AtLeast}
use Rattle.ledger_rule.specs.Kept.{IsSide, nothing}
use Rattle.ledger_rule.specs.declared.accounts.Account.{Account}
use Rattle.ledger_rule.specs.declared.sides.Side.{Side}

-- of the man on this square
abbrev pub IsOfMan : Supposition → ℕ → Type 0
IsOfMan (Began t homes) s = t ≡ s
IsOfMan (Went t straight) s = t ≡ s
IsOfMan (Stands k promoted) s = ⊥
IsOfMan (Gone k promoted struck) s = ⊥
IsOfMan (AtMost side squares n) s = ⊥
IsOfMan (AtLeast side squares n) s = ⊥

-- of who began on this square
abbrev pub IsOfHome : Supposition → ℕ → Type 0
IsOfHome (Began t homes) h = ⊥
IsOfHome (Went t straight) h = ⊥
IsOfHome (Stands k promoted) h = k ≡ h
IsOfHome (Gone k promoted struck) h = k ≡ h
IsOfHome (AtMost side squares n) h = ⊥
IsOfHome (AtLeast side squares n) h = ⊥

-- sixteen rows that cost the same as before
pub record AreSame (old new : List (List ℕ)) : Type 0 where
  pub size : length new ≡ 16
  pub cells : (r c : ℕ) → r < 16 → c < 16 → cost_at new r c ≡ cost_at old r c

-- what the men of one side cost with some captures dearer, and those of the other without
abbrev pub dear_cost : Asked → Account → Colour → Colour → Squares → ℕ
dear_cost q a reckoned payer squares = side_cost_if nothing q.odds q.board (raised payer squares a.prices) a.set reckoned + side_cost_if nothing q.odds q.board a.prices a.set (opponent reckoned)

-- what is kept of a side is true at some odds and prices, beside some set
pub record IsReckoned (board : Places) (s : Side) : Type 0 where
  pub odds : List Bool
  pub prices : PriceList
  pub set : List Bool
  pub side : Colour
  pub is : IsSide odds board prices set side s

-- what is kept of a side
abbrev pub side_in : Account → Colour → Side
side_in a White = a.white
side_in a Black = a.black
