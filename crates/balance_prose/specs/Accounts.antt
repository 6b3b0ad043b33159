-- The homes of all men at which their side costs the least, what they count and who makes up for it.
use Rattle.std.specs.Prelude.{ℕ, ◌≡◌, ◌+◌, ◌-◌, ◌<◌, ◌≤◌, Bool, List, [], ◌∷◌, length, slice_index}
use Rattle.assignment.specs.Assignments.{IsInjection, assignment_cost}
use Rattle.balance_rule.specs.Balance.{cost_table, men_on, side_cost}
use Rattle.board_base.specs.Board.{array_of}
use Rattle.board_base.specs.declared.men.Colour.{Colour}
use Rattle.board_base.specs.declared.men.Colour.TheVariants.{White, Black}
use Rattle.capture_prices.specs.Prices.{PriceList, all_gates}
use Rattle.query_base.specs.Asked.{Asked}

-- what each man of a side costs from each of its homes, and then each man who is gone
abbrev pub table_of : Asked → PriceList → List Bool → Colour → List (List ℕ)
table_of q p set c = cost_table p set c (array_of q.odds) q.board

-- a side has no more men than it began with
abbrev pub HasNoMore : Asked → Colour → Type 0
HasNoMore q c = men_on c q.board ≤ men_on c (array_of q.odds)

-- homes of their own for all men of a side, with which they cost the least
abbrev pub AreLeastHomes : Asked → PriceList → List Bool → Colour → List ℕ → Type 0
AreLeastHomes q p set c homes =
    IsInjection 16 (length (table_of q p set c)) homes × (assignment_cost (table_of q p set c) homes ≡ side_cost q.odds q.board p set c)

-- the sum of what f makes of what each row costs with its home
abbrev pub sum_on : (ℕ → ℕ) → List (List ℕ) → List ℕ → ℕ
sum_on f [] homes = 0
sum_on f (row ∷ table) [] = 0
sum_on f (row ∷ table) (j ∷ homes) = f (slice_index row j) + sum_on f table homes

-- what a man counts who costs so much: 96 is for nothing
abbrev pub counted_of : ℕ → ℕ
counted_of cost = cost - 96

-- for how much he makes up
abbrev pub made_up : ℕ → ℕ
made_up cost = 96 - cost

-- what all men count
abbrev pub all_counted : Asked → PriceList → List Bool → List ℕ → List ℕ → ℕ
all_counted q p set white black = sum_on counted_of (table_of q p set White) white + sum_on counted_of (table_of q p set Black) black

-- for how much all men make up
abbrev pub all_made_up : Asked → PriceList → List Bool → List ℕ → List ℕ → ℕ
all_made_up q p set white black = sum_on made_up (table_of q p set White) white + sum_on made_up (table_of q p set Black) black

-- With these homes the men of each side cost the least, and they count more than they, with the gates, make up for.
pub record CountTooMany (q : Asked) (p : PriceList) (set : List Bool) (white black : List ℕ) : Type 0 where
  pub white_least : AreLeastHomes q p set White white
  pub black_least : AreLeastHomes q p set Black black
  pub white_men : HasNoMore q White
  pub black_men : HasNoMore q Black
  pub above : all_made_up q p set white black + all_gates p < all_counted q p set white black
