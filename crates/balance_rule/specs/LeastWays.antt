-- The least that ways of a pawn cost, and the board as each side sees it.
use Rattle.std.specs.Prelude.{ℕ, ◌≡◌, ◌<◌, ◌≤◌, ◌-◌, ◌==◌, Bool, true, cond, ◌&&◌, not, nat_lt, min, List, ◌∷◌, slice_index}
use Rattle.std.specs.List.{sum_by}
use Rattle.board_base.specs.declared.men.Colour.{Colour}
use Rattle.board_base.specs.declared.men.Colour.TheVariants.{White, Black}
use Rattle.men_fates.specs.Ways.{fee, is_straight, is_way, way_end}
use Rattle.capture_prices.specs.Prices.{PriceList, gate, take}
use Rattle.balance_rule.specs.Costs.{never}
use Rattle.balance_rule.specs.declared.reaches.Reach.{Reach}

-- The square with this number as a side sees the board: the corner on its queen's side or king's side comes first, and its pawns begin
-- on the numbers from 8 to 15. The number of a square is told in the same way.
abbrev pub seen_by : Colour → ℕ → ℕ
seen_by White i = i
seen_by Black i = 63 - i

-- n is the least of what f tells of the ways from h that pass the test, and `never` where there is none
pub record IsLeast (c : Colour) (set : List Bool) (h : ℕ) (p : List ℕ → Bool) (f : List ℕ → ℕ) (n : ℕ) : Type 0 where
  pub most : n ≤ never
  pub below : (way : List ℕ) → is_way c set h way ≡ true → p way ≡ true → n ≤ f way
  pub found : n < never → (way : List ℕ) × (is_way c set h way ≡ true) × (p way ≡ true) × (f way ≡ n)

-- a way from h ends on t; it ends there and the pawn captures nowhere; it ends there and he captures somewhere
abbrev pub ends_on : ℕ → ℕ → List ℕ → Bool
ends_on h t way = way_end h way == t

abbrev pub straight_to : ℕ → ℕ → List ℕ → Bool
straight_to h t way = is_straight h way && ends_on h t way

abbrev pub aside_to : ℕ → ℕ → List ℕ → Bool
aside_to h t way = not (is_straight h way) && ends_on h t way

-- the gates of the squares of a way, its first among them
abbrev pub gates_on : PriceList → ℕ → List ℕ → ℕ
gates_on p h way = sum_by (gate p) (h ∷ way)

-- these are the least of the ways from h to t on which the pawn captures nowhere, and of those on which he captures somewhere
pub record AreLeastTo (p : PriceList) (set : List Bool) (c : Colour) (h t x y : ℕ) : Type 0 where
  pub straight : IsLeast c set h (straight_to h t) (gates_on p h) x
  pub aside : IsLeast c set h (aside_to h t) (fee (take p c) h) y

-- they are so for each square
abbrev pub IsReach : PriceList → List Bool → Colour → ℕ → Reach → Type 0
IsReach p set c h r = (i : ℕ) → i < 64 → AreLeastTo p set c h (seen_by c i) (slice_index r.straight i) (slice_index r.aside i)

-- the least fee of all ways to a square, from these two numbers
abbrev pub fee_of : ℕ → ℕ → ℕ
fee_of x y = cond (nat_lt x never) 0 y

-- the least toll of all ways to it
abbrev pub toll_of : ℕ → ℕ → ℕ
toll_of x y = min x y
