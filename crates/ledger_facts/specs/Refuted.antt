-- When prices refute a supposition on the games that lead to a query.
use Rattle.std.specs.Prelude.{◌<◌, ◌≤◌, ◌+◌, Bool, IsTrue, List}
use Rattle.board_base.specs.Board.{array_of}
use Rattle.board_base.specs.declared.men.Colour.TheVariants.{White, Black}
use Rattle.query_base.specs.Asked.{Asked}
use Rattle.balance_rule.specs.SetRules.{IsSettled}
use Rattle.capture_prices.specs.Prices.{PriceList, are_prices}
use Rattle.balance_rule.specs.Balance.{men_on, most_cost}
use Rattle.ledger_facts.specs.Accounts.{earned_over, list_for, paid_over, side_cost_if}
use Rattle.ledger_facts.specs.declared.suppositions.Supposition.{Supposition}

-- The set is frozen and as in the array at the query's odds, no side has more men than it began with, and if the supposition is true, the men
-- of both sides cost more with homes of their own than their true homes can. No price is above 96, nor are the dearer ones.
pub record IsRefuted (x : Supposition) (q : Asked) (set : List Bool) (p : PriceList) : Type 0 where
  pub settled : IsSettled q.odds q set
  pub white_prices : IsTrue (are_prices (list_for x p White))
  pub black_prices : IsTrue (are_prices (list_for x p Black))
  pub white : men_on White q.board ≤ men_on White (array_of q.odds)
  pub black : men_on Black q.board ≤ men_on Black (array_of q.odds)
  pub above : most_cost q.odds p + paid_over x < side_cost_if x q.odds q.board (list_for x p White) set White + side_cost_if x q.odds q.board (list_for x p Black) set Black + earned_over x

-- some set and some prices refute it
abbrev pub IsRuledOut : Supposition → Asked → Type 0
IsRuledOut x q = (set : List Bool) × (p : PriceList) × IsRefuted x q set p
