-- The balance of captures of a sketch: each figure has a row of least costs over his squares, and each other man of the array a row of one
-- who is gone.
use Rattle.std.specs.Prelude.{ℕ, suc, ◌+◌, ◌-◌, ◌<◌, ◌==◌, Bool, cond, IsTrue, List, [], ◌∷◌, ◌++◌, length, map, replicate, Option}
use Rattle.std.specs.List.{filter, flat_map, range_with_len}
use Rattle.board_base.specs.Board.{Places, array_of, at, home_of, is_in, same_colour}
use Rattle.board_base.specs.declared.men.Colour.{Colour}
use Rattle.board_base.specs.declared.men.Colour.TheVariants.{White, Black}
use Rattle.board_base.specs.declared.men.Man.{Man}
use Rattle.assignment.specs.Assignments.{least_cost}
use Rattle.capture_prices.specs.Prices.{PriceList, are_prices}
use Rattle.balance_rule.specs.Balance.{men_on, most_cost}
use Rattle.balance_rule.specs.Costs.{least}
use Rattle.play_rules.specs.Reach.{IsWithin}
use Rattle.past_sketches.specs.Figures.{Figure, Sketch, fixed_squares}
use Rattle.past_account.specs.Limits.{Limit, any, comes, lost, other, plain}
use Rattle.past_account.specs.Zones.{AreZones, Room, room_past}

-- a figure, and what is known of how its man came
pub record Counted : Type 0 where
  pub figure : Figure
  pub limit : Limit

-- what it costs at least that the figure's man began on h, where this stood in the array: the least over his kinds and squares
unfoldable pub figure_comes : PriceList → List Bool → Room → Option Man → ℕ → Counted → ℕ
figure_comes p set R first h x = least (flat_map (λ k. map (comes p set R x.figure.colour x.limit first h k) (filter (is_in x.figure.squares) (range_with_len 0 64))) x.figure.kinds)

-- on each of the homes of a side
unfoldable pub figure_row : PriceList → List Bool → Room → Colour → Places → Counted → List ℕ
figure_row p set R c first x = map (λ j. figure_comes p set R (at first (home_of c j)) (home_of c j) x) (range_with_len 0 16)

-- what it costs that the man of each of these homes is gone
unfoldable pub lost_row : PriceList → List Bool → Room → Colour → Places → List ℕ
lost_row p set R c first = map (λ j. lost p set R c (at first (home_of c j)) (home_of c j)) (range_with_len 0 16)

-- the figure is of this colour
abbrev pub is_figure_of : Colour → Counted → Bool
is_figure_of c x = same_colour c x.figure.colour

-- a row for each figure of the side, and then one for each other man of the array
unfoldable pub figure_table : PriceList → List Bool → Room → Colour → Places → List Counted → List (List ℕ)
figure_table p set R c first xs = map (figure_row p set R c first) (filter (is_figure_of c) xs) ++ replicate (men_on c first - length (filter (is_figure_of c) xs)) (lost_row p set R c first)

-- the least that the men of a side cost with homes of their own
abbrev pub figures_cost : List Bool → PriceList → List Bool → Room → List Counted → Colour → ℕ
figures_cost o p set R xs c = least_cost 16 (figure_table p set R c (array_of o) xs)

-- they cost more than their true homes can
abbrev pub CostTooMuch : List Bool → PriceList → List Bool → Room → List Counted → Type 0
CostTooMuch o p set R xs = most_cost o p < figures_cost o p set R xs White + figures_cost o p set R xs Black

-- what a figure's mark says
abbrev pub mark_limit : Figure → Limit
mark_limit f = cond f.marked plain any

-- the figures with what is known of each by his number
abbrev pub counted_by : (ℕ → Figure → Limit) → Sketch → List Counted
counted_by limit [] = []
counted_by limit (f ∷ S) = record { figure = f; limit = limit 0 f } ∷ counted_by (λ i. limit (suc i)) S

-- the figures with their marks
abbrev pub by_marks : Sketch → List Counted
by_marks S = counted_by (λ i f. mark_limit f) S

-- the same, but what a mark would say of the figure with number i is false
abbrev pub against : ℕ → Sketch → List Counted
against i S = counted_by (λ j f. cond (j == i) other (mark_limit f)) S

-- The set's squares are those of fixed figures, these are zones of figures, and for these prices the figures, each with what is known of
-- him, cost too much.
pub record AreTooDear (o : List Bool) (S : Sketch) (set : List Bool) (zones : List (List Bool)) (p : PriceList) (xs : List Counted) : Type 0 where
  pub fixed : IsWithin set (fixed_squares S)
  pub zones_are : AreZones set S zones
  pub prices : IsTrue (are_prices p)
  pub above : CostTooMuch o p set (room_past set zones) xs

-- they do with their marks
abbrev pub IsClosedBy : List Bool → Sketch → List Bool → List (List Bool) → PriceList → Type 0
IsClosedBy o S set zones p = AreTooDear o S set zones p (by_marks S)

-- they do if what a mark would say of the figure with number i is false
abbrev pub IsForcedBy : List Bool → Sketch → List Bool → List (List Bool) → PriceList → ℕ → Type 0
IsForcedBy o S set zones p i = AreTooDear o S set zones p (against i S)
