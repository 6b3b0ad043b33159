-- The balance of captures: over all men what is paid is what is earned. Where each way of giving homes to the men costs more than the
-- gates make up for, no game leads to the position.
use Rattle.std.specs.Prelude.{ℕ, ◌<◌, ◌≤◌, ◌+◌, ◌-◌, ◌*◌, Bool, IsTrue, List, ◌++◌, length, map, replicate}
use Rattle.std.specs.List.{range_with_len}
use Rattle.board_base.specs.Board.{Places, array_of, at, men_squares, home_of}
use Rattle.board_base.specs.declared.men.Colour.{Colour}
use Rattle.board_base.specs.declared.men.Colour.TheVariants.{White, Black}
use Rattle.query_base.specs.Asked.{Asked}
use Rattle.assignment.specs.Assignments.{least_cost}
use Rattle.static_rules.specs.SetRules.{IsSettled}
use Rattle.capture_prices.specs.Prices.{PriceList, all_gates, are_prices}
use Rattle.balance_rule.specs.Costs.{gone, stands}

-- how many men this colour has
abbrev pub men_on : Colour → Places → ℕ
men_on c board = length (men_squares c board)

-- what it costs that the man on s began on each of the homes of a side, which begins with these men
unfoldable pub stand_row : PriceList → List Bool → Colour → Places → Places → ℕ → List ℕ
stand_row p set c first board s = map (λ j. stands p set c (at first (home_of c j)) (home_of c j) (at board s) s) (range_with_len 0 16)

-- what it costs that the man of each of these homes is gone
unfoldable pub gone_row : PriceList → List Bool → Colour → Places → List ℕ
gone_row p set c first = map (λ j. gone p set c (at first (home_of c j)) (home_of c j)) (range_with_len 0 16)

-- a row for each man of the side, in ascending order of their squares, and then one for each of its men who is missing
unfoldable pub cost_table : PriceList → List Bool → Colour → Places → Places → List (List ℕ)
cost_table p set c first board = map (stand_row p set c first board) (men_squares c board) ++ replicate (men_on c first - men_on c board) (gone_row p set c first)

-- the least that the men of a side cost with homes of their own
abbrev pub side_cost : List Bool → Places → PriceList → List Bool → Colour → ℕ
side_cost o board p set c = least_cost 16 (cost_table p set c (array_of o) board)

-- what the true homes of all men cost at most in a game from the array without the men on the squares of o: 96 for each, and the gates
abbrev pub most_cost : List Bool → PriceList → ℕ
most_cost o p = 96 * (men_on White (array_of o) + men_on Black (array_of o)) + all_gates p

-- The set is frozen and as in the array without the men on the squares of o, no side has more men than it began with, and with homes of
-- their own the men of both sides cost more than their true homes can.
pub record BalanceAt (o : List Bool) (q : Asked) (set : List Bool) (p : PriceList) : Type 0 where
  pub settled : IsSettled o q set
  pub prices : IsTrue (are_prices p)
  pub white : men_on White q.board ≤ men_on White (array_of o)
  pub black : men_on Black q.board ≤ men_on Black (array_of o)
  pub above : most_cost o p < side_cost o q.board p set White + side_cost o q.board p set Black

-- so at the query's odds
abbrev pub BalanceSupports : Asked → List Bool → PriceList → Type 0
BalanceSupports q set p = BalanceAt q.odds q set p
