-- What it costs at least that the men of a side began on its homes, or are gone, if a supposition is true: cells that it rules out cost
-- `never`, ways and fates that it rules out don't count, and captures that it counts cost or yield more.
use Rattle.std.specs.Prelude.{ℕ, ◌+◌, ◌-◌, ◌*◌, ◌==◌, Bool, cond, ◌&&◌, ◌||◌, not, List, ◌++◌, map, replicate, slice_index, Option, Some, None}
use Rattle.std.specs.Bool.{beq}
use Rattle.std.specs.List.{filter, list_any, range_with_len}
use Rattle.board_base.specs.Board.{Places, array_of, at, home_of, is_a, is_in, men_squares, opponent, same_colour, same_kind}
use Rattle.board_base.specs.declared.men.Colour.{Colour}
use Rattle.board_base.specs.declared.men.Colour.TheVariants.{White, Black}
use Rattle.board_base.specs.declared.men.Kind.{Kind}
use Rattle.board_base.specs.declared.men.Kind.TheVariants.{Pawn, King}
use Rattle.board_base.specs.declared.men.Man.{Man}
use Rattle.cage_rules.specs.Regions.{region}
use Rattle.men_fates.specs.Fates.{brings, may_fall}
use Rattle.men_fates.specs.Ways.{fee, is_straight, way_end}
use Rattle.capture_prices.specs.Prices.{PriceList, priced, take}
use Rattle.assignment.specs.Assignments.{least_cost}
use Rattle.balance_rule.specs.Balance.{men_on}
use Rattle.balance_rule.specs.Costs.{brings_officer, gone, least, loss_cost, most_earned, never, stands, way_cost, ways_from}
use Rattle.ledger_facts.specs.Supposed.{has_class, is_last}
use Rattle.ledger_facts.specs.declared.suppositions.Squares.{Squares}
use Rattle.ledger_facts.specs.declared.suppositions.Supposition.{Supposition}
use Rattle.ledger_facts.specs.declared.suppositions.Supposition.TheVariants.{Began, Went, Stands, Gone, AtMost, AtLeast}

-- what it costs at least that the pawn of h went to s as a pawn, and captured nowhere, or somewhere
unfoldable pub pawn_goes : Bool → PriceList → List Bool → Colour → ℕ → ℕ → ℕ
pawn_goes straight p set c h s = least (map (way_cost p c h) (filter (λ way. beq straight (is_straight h way) && brings set c h way Pawn s) (ways_from c set h)))

-- that the man on this place of s is that pawn, where the man of h is of this kind in the array; one of the set stands where he began
abbrev pub goes_as : Bool → PriceList → List Bool → Colour → Kind → ℕ → Option Man → ℕ → ℕ
goes_as straight p set c first h place s =
    cond (same_kind first Pawn && is_a Pawn place) (cond (is_in set h || is_in set s) (cond (h == s) 96 never) (pawn_goes straight p set c h s)) never

-- where this stood on h in the array; `never` where none of this colour did
abbrev pub goes : Bool → PriceList → List Bool → Colour → Option Man → ℕ → Option Man → ℕ → ℕ
goes straight p set c None h place s = never
goes straight p set c (Some first) h place s = cond (same_colour c first.colour) (goes_as straight p set c first.kind h place s) never

-- who was a pawn in the array isn't one any more
abbrev pub has_become : Option Man → Option Man → Bool
has_become first place = is_a Pawn first && not (is_a Pawn place)

-- what it costs at least that the man on this place of s began on h, if the supposition is true
abbrev pub stands_if : Supposition → PriceList → List Bool → Colour → Option Man → ℕ → Option Man → ℕ → ℕ
stands_if (Began t homes) p set c first h place s = cond ((s == t) && not (is_in homes h)) never (stands p set c first h place s)
stands_if (Went t straight) p set c first h place s = cond (s == t) (goes straight p set c first h place s) (stands p set c first h place s)
stands_if (Stands k promoted) p set c first h place s = cond ((h == k) && not (beq promoted (has_become first place))) never (stands p set c first h place s)
stands_if (Gone k promoted struck) p set c first h place s = cond (h == k) never (stands p set c first h place s)
stands_if (AtMost side squares n) p set c first h place s = stands p set c first h place s
stands_if (AtLeast side squares n) p set c first h place s = stands p set c first h place s

-- on some square that passes the test a man of this colour may fall to a pawn
abbrev pub may_fall_on : List Bool → Colour → (ℕ → Bool) → Bool
may_fall_on set c among = list_any (λ s. among s && may_fall set c s) (range_with_len 0 64)

-- a pawn may take a man of this colour who went this way from h: as a pawn where it ends, or after the last rank as an officer
abbrev pub may_be_struck : List Bool → Colour → ℕ → List ℕ → Bool
may_be_struck set c h way = cond (is_last c h way) (may_fall_on set c (brings_officer set c h way)) (may_fall set c (way_end h way))

-- by this way he was promoted or not, and a pawn may have taken him if one did
abbrev pub is_lost_by : Bool → Bool → List Bool → Colour → ℕ → List ℕ → Bool
is_lost_by promoted struck set c h way = beq promoted (is_last c h way) && (not struck || may_be_struck set c h way)

-- what it costs that he went this way and is gone: he earns nothing if no pawn took him
abbrev pub loss_as : Bool → PriceList → List Bool → Colour → ℕ → List ℕ → ℕ
loss_as struck p set c h way = cond struck (loss_cost p set c h way) (cond (is_last c h way) (way_cost p c h way) (96 + fee (take p c) h way))

-- what it costs at least that the pawn of h is so gone
unfoldable pub pawn_lost : Bool → Bool → PriceList → List Bool → Colour → ℕ → ℕ
pawn_lost promoted struck p set c h = least (map (loss_as struck p set c h) (filter (is_lost_by promoted struck set c h) (ways_from c set h)))

-- that the man of h is, who is no pawn: he is never promoted, and the king is never gone
abbrev pub piece_lost : Bool → Bool → PriceList → List Bool → Colour → Kind → ℕ → ℕ
piece_lost promoted struck p set c first h =
    cond (promoted || same_kind first King) never (cond struck (cond (may_fall_on set c (is_in (region set h))) (96 - most_earned p set c (is_in (region set h))) never) 96)

-- that the man of h is, where he is of this kind in the array; one of the set never is
abbrev pub lost_as : Bool → Bool → PriceList → List Bool → Colour → Kind → ℕ → ℕ
lost_as promoted struck p set c first h = cond (is_in set h) never (cond (same_kind first Pawn) (pawn_lost promoted struck p set c h) (piece_lost promoted struck p set c first h))

-- where this stood on h in the array; `never` where none of this colour did
abbrev pub lost : Bool → Bool → PriceList → List Bool → Colour → Option Man → ℕ → ℕ
lost promoted struck p set c None h = never
lost promoted struck p set c (Some first) h = cond (same_colour c first.colour) (lost_as promoted struck p set c first.kind h) never

-- what it costs at least that the man who began on h is gone, if the supposition is true
abbrev pub gone_if : Supposition → PriceList → List Bool → Colour → Option Man → ℕ → ℕ
gone_if (Began t homes) p set c first h = gone p set c first h
gone_if (Went t straight) p set c first h = gone p set c first h
gone_if (Stands k promoted) p set c first h = cond (h == k) never (gone p set c first h)
gone_if (Gone k promoted struck) p set c first h = cond (h == k) (lost promoted struck p set c first h) (gone p set c first h)
gone_if (AtMost side squares n) p set c first h = gone p set c first h
gone_if (AtLeast side squares n) p set c first h = gone p set c first h

-- the table of a side: a row for each of its men, in ascending order of their squares, and then one for each who is missing
unfoldable pub stand_row_if : Supposition → PriceList → List Bool → Colour → Places → Places → ℕ → List ℕ
stand_row_if x p set c first board s = map (λ j. stands_if x p set c (at first (home_of c j)) (home_of c j) (at board s) s) (range_with_len 0 16)

-- what it costs that the man of each of its homes is gone
unfoldable pub gone_row_if : Supposition → PriceList → List Bool → Colour → Places → List ℕ
gone_row_if x p set c first = map (λ j. gone_if x p set c (at first (home_of c j)) (home_of c j)) (range_with_len 0 16)

-- both together
unfoldable pub cost_table_if : Supposition → PriceList → List Bool → Colour → Places → Places → List (List ℕ)
cost_table_if x p set c first board = map (stand_row_if x p set c first board) (men_squares c board) ++ replicate (men_on c first - men_on c board) (gone_row_if x p set c first)

-- the least that the men of a side cost with homes of their own
abbrev pub side_cost_if : Supposition → List Bool → Places → PriceList → List Bool → Colour → ℕ
side_cost_if x o board p set c = least_cost 16 (cost_table_if x p set c (array_of o) board)

-- by how much captures are dearer on squares on which they are counted
abbrev pub charge : ℕ
charge = 24

-- prices of classes, dearer on some of them
unfoldable pub dearer : Squares → List ℕ → List ℕ
dearer squares takes = map (λ k. slice_index takes k + cond (has_class squares k) charge 0) (range_with_len 0 16)

-- the prices with those of a side's captures on these squares dearer
abbrev pub raised : Colour → Squares → PriceList → PriceList
raised White squares p = priced (dearer squares p.white) p.black p.gates
raised Black squares p = priced p.white (dearer squares p.black) p.gates

-- The prices by which a side's men are counted. Where captures are supposed to be few, the pawns who make them pay the dearer prices;
-- where they are supposed to be many, the men whom they take earn them.
abbrev pub list_for : Supposition → PriceList → Colour → PriceList
list_for (Began t homes) p c = p
list_for (Went t straight) p c = p
list_for (Stands k promoted) p c = p
list_for (Gone k promoted struck) p c = p
list_for (AtMost side squares n) p c = cond (same_colour side c) (raised side squares p) p
list_for (AtLeast side squares n) p c = cond (same_colour (opponent side) c) (raised side squares p) p

-- how much more is paid than earned, at most, and how much more is earned than paid, at least
abbrev pub paid_over : Supposition → ℕ
paid_over (Began t homes) = 0
paid_over (Went t straight) = 0
paid_over (Stands k promoted) = 0
paid_over (Gone k promoted struck) = 0
paid_over (AtMost side squares n) = charge * n
paid_over (AtLeast side squares n) = 0

-- how much more is earned than paid, at least
abbrev pub earned_over : Supposition → ℕ
earned_over (Began t homes) = 0
earned_over (Went t straight) = 0
earned_over (Stands k promoted) = 0
earned_over (Gone k promoted struck) = 0
earned_over (AtMost side squares n) = 0
earned_over (AtLeast side squares n) = charge * n
