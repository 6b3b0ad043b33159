-- Inner: no public clause cites this file.
-- Least ways to a square from those to the squares behind it.
use Rattle.std.specs.Prelude.{ℕ, ◌≡◌, ◌<◌, ◌≤◌, ◌+◌, ◌-◌, ◌%◌, Bool, cond, nat_lt, min, List, length, slice_index}
use Rattle.board_base.specs.declared.men.Colour.{Colour}
use Rattle.capture_prices.specs.Prices.{PriceList}
use Rattle.balance_rule.specs.Costs.{never}
use Rattle.balance_rule.specs.LeastWays.{AreLeastTo, fee_of, seen_by}
use Rattle.balance_rule.specs.declared.reaches.Reach.{Reach}

-- the least fee of the ways to the square from which a step to the side comes, if there is one
abbrev pub fee_behind : Reach → Bool → ℕ → ℕ
fee_behind r is_step from = cond is_step (fee_of (slice_index r.straight from) (slice_index r.aside from)) never

-- the least fee of the ways to a square on which the pawn captures somewhere, from those to the squares behind it
abbrev pub next_aside : Reach → ℕ → ℕ → ℕ
next_aside r price i = min (slice_index r.aside (i - 8)) (min never (min (fee_behind r (nat_lt 0 (i % 8)) (i - 9)) (fee_behind r (nat_lt (i % 8) 7) (i - 7)) + price))

-- the squares before the one with number i have their least numbers, and the others none
pub record IsReachTo (p : PriceList) (set : List Bool) (c : Colour) (home : ℕ) (r : Reach) (i : ℕ) : Type 0 where
  pub straight_size : length r.straight ≡ 64
  pub aside_size : length r.aside ≡ 64
  pub done : (j : ℕ) → j < 64 → j < i → AreLeastTo p set c (seen_by c home) (seen_by c j) (slice_index r.straight j) (slice_index r.aside j)
  pub rest : (j : ℕ) → j < 64 → i ≤ j → (slice_index r.straight j ≡ never) × (slice_index r.aside j ≡ never)
