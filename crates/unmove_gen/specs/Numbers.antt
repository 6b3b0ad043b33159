-- Inner: no public clause cites this file.
-- Candidates by their numbers.
use Rattle.std.specs.Prelude.{ℕ, ◌≡◌, ◌+◌, ◌*◌, ◌<◌, ◌≤◌, false, Some, slice_get}
use Rattle.query_base.specs.Asked.{Asked}
use Rattle.unmove_gen.specs.Listed.{candidates, is_listed}
use Rattle.board_base.specs.declared.unmoves.Unmove.{Unmove}

-- The number of the candidate with this target and origin, and these places of its promotion and its capture: there are seven
-- captures to each promotion, five promotions to each origin, and 64 origins to each target.
abbrev pub number_at : ℕ → ℕ → ℕ → ℕ → ℕ
number_at to from promotion capture = 2240 * to + 35 * from + 7 * promotion + capture

-- no candidate with a number from the first to below the second is listed
abbrev pub AreUnlisted : Asked → ℕ → ℕ → Type 0
AreUnlisted q low high = (n : ℕ) (u : Unmove) → low ≤ n → n < high → slice_get candidates n ≡ Some u → is_listed q u ≡ false
