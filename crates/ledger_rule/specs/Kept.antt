-- What is counted once for all suppositions at the same prices.
use Rattle.std.specs.Prelude.{◌≡◌, ◌≤◌, ℕ, Bool, IfSome, IsTrue, List, length}
use Rattle.board_base.specs.Board.{Places, array_of, men_squares}
use Rattle.board_base.specs.declared.men.Colour.{Colour}
use Rattle.board_base.specs.declared.men.Colour.TheVariants.{White, Black}
use Rattle.query_base.specs.Asked.{Asked}
use Rattle.static_rules.specs.SetRules.{IsSettled}
use Rattle.assignment.specs.Tables.{IsLimit}
use Rattle.capture_prices.specs.Prices.{PriceList, are_prices}
use Rattle.balance_rule.specs.Balance.{men_on, most_cost}
use Rattle.balance_rule.specs.Costs.{never}
use Rattle.balance_rule.specs.Grounds.{IsGround}
use Rattle.ledger_facts.specs.Accounts.{cost_table_if, side_cost_if}
use Rattle.ledger_facts.specs.declared.suppositions.Squares.TheVariants.{All}
use Rattle.ledger_facts.specs.declared.suppositions.Supposition.{Supposition}
use Rattle.ledger_facts.specs.declared.suppositions.Supposition.TheVariants.{AtMost}
use Rattle.ledger_pairings.specs.Rests.{AreRests}
use Rattle.ledger_rule.specs.declared.accounts.Account.{Account}
use Rattle.ledger_rule.specs.declared.sides.Side.{Side}
use Rattle.ledger_rule.specs.declared.sides.Table.{Table}

-- a supposition that rules out nothing
abbrev pub nothing : Supposition
nothing = AtMost White All 0

-- no cost is above `never`, and the rests are those of the rows
pub record IsSound (t : Table) : Type 0 where
  pub costs : IsLimit t.rows never
  pub rests : AreRests t.rows t.rests

-- these are sixteen rows, with their rests
pub record IsTableOf (rows : List (List ℕ)) (t : Table) : Type 0 where
  pub same : t.rows ≡ rows
  pub size : length rows ≡ 16
  pub sound : IsSound t

-- At these odds and prices, beside this set, the side has no more men than it began with, and all that is kept of it is true.
pub record IsSide (o : List Bool) (board : Places) (p : PriceList) (set : List Bool) (c : Colour) (s : Side) : Type 0 where
  pub side : s.ground.side ≡ c
  pub beside : s.ground.frozen ≡ set
  pub ground : IsGround o p s.ground
  pub begun : s.begun ≡ men_on c (array_of o)
  pub sixteen : s.begun ≤ 16
  pub few : men_on c board ≤ men_on c (array_of o)
  pub men : s.men.items ≡ men_squares c board
  pub cost : s.cost ≡ side_cost_if nothing o board p set c
  pub table : IfSome s.table (IsTableOf (cost_table_if nothing p set c (array_of o) board))

-- The set is frozen and as in the array at the query's odds, no side has more men than it began with, and all that is kept is true.
pub record IsAccount (q : Asked) (a : Account) : Type 0 where
  pub settled : IsSettled q.odds q a.set
  pub known : IsTrue (are_prices a.prices)
  pub white : IsSide q.odds q.board a.prices a.set White a.white
  pub black : IsSide q.odds q.board a.prices a.set Black a.black
  pub most : a.most ≡ most_cost q.odds a.prices

-- It is an account beside this set, at these prices.
pub record IsAccountOf (q : Asked) (set : List Bool) (p : PriceList) (a : Account) : Type 0 where
  pub account : IsAccount q a
  pub beside : a.set ≡ set
  pub at_prices : a.prices ≡ p
