-- Inner: no public clause cites this file.
-- When dues of rows and prices of columns show that no assignment costs less, and the rests of one row.
use Rattle.std.specs.Prelude.{ℕ, ◌+◌, ◌<◌, ◌≤◌, List, slice_index}
use Rattle.assignment.specs.Tables.{cost_at}
use Rattle.ledger_pairings.specs.Rests.{IsRest}

-- no row's due is above what a column costs it, with the column's price
abbrev pub AreFair : List (List ℕ) → List ℕ → List ℕ → Type 0
AreFair table dues prices = (r c : ℕ) → r < 16 → c < 16 → slice_index dues r ≤ cost_at table r c + slice_index prices c

-- what the other rows cost beside row i, for each column of it
abbrev pub AreRestsOfRow : List (List ℕ) → ℕ → List ℕ → Type 0
AreRestsOfRow table i rests = (j : ℕ) → j < 16 → IsRest table i j (slice_index rests j)
