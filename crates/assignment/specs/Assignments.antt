-- The assignment problem: each row of a table of costs is given a column of its own, so that the sum of the costs is least.
use Rattle.std.specs.Prelude.{ℕ, ◌≡◌, ◌+◌, ◌<◌, ◌==◌, not, List, [], ◌∷◌, length, map, slice_index, slice_index_or, ℤ, pos, neg_ℤ, ◌+ℤ◌, ◌≤ℤ◌, ◌<ℤ◌, zero, suc, min, Bool}
use Rattle.std.specs.List.{All, list_any, filter, flat_map, fold, range_with_len}
use Rattle.assignment.specs.Tables.{cost_at}

-- a column below the width for each of so many rows, and no column for two rows
pub record IsInjection (width rows : ℕ) (columns : List ℕ) : Type 0 where
  pub size : length columns ≡ rows
  pub within : All (λ j. j < width) columns
  pub apart : (i k : ℕ) → i < length columns → k < length columns → slice_index columns i ≡ slice_index columns k → i ≡ k

-- the sum of what the rows cost with these columns
abbrev pub assignment_cost : List (List ℕ) → List ℕ → ℕ
assignment_cost [] columns = 0
assignment_cost (row ∷ table) [] = 0
assignment_cost (row ∷ table) (j ∷ columns) = slice_index row j + assignment_cost table columns

-- the column is one of these
abbrev pub is_among : ℕ → List ℕ → Bool
is_among j columns = list_any (λ k. k == j) columns

-- all injections of so many rows into the columns below the width: before each that there is for one row less, each other column
unfoldable pub injections : ℕ → ℕ → List (List ℕ)
injections width zero = [] ∷ []
injections width (suc rows) =
    flat_map (λ columns. map (λ j. j ∷ columns) (filter (λ j. not (is_among j columns)) (range_with_len 0 width))) (injections width rows)

-- the least of these numbers, and 0 if there is none
abbrev pub least_of : List ℕ → ℕ
least_of [] = 0
least_of (x ∷ xs) = fold min x xs

-- the least cost of an injection of the rows into the columns
unfoldable pub least_cost : ℕ → List (List ℕ) → ℕ
least_cost width table = least_of (map (assignment_cost table) (injections width (length table)))

-- the sum of these numbers
abbrev pub total : List ℤ → ℤ
total [] = pos 0
total (x ∷ xs) = x +ℤ total xs

-- Dual potentials that bound the cost: one number for each row and for each column, none of a column above 0, and for each row and
-- each column no sum above the cost.
pub record IsBounded (width : ℕ) (table : List (List ℕ)) (u v : List ℤ) : Type 0 where
  pub rows : length u ≡ length table
  pub columns : length v ≡ width
  pub below : All (λ x. x ≤ℤ pos 0) v
  pub pairs : (i j : ℕ) → i < length table → j < width → (slice_index_or u i (pos 0) +ℤ slice_index_or v j (pos 0)) ≤ℤ pos (cost_at table i j)

-- the number is from -limit to limit
abbrev pub IsWithin : ℕ → ℤ → Type 0
IsWithin limit x = (neg_ℤ (pos limit) ≤ℤ x) × (x ≤ℤ pos limit)

-- potentials from -limit to limit that bound the costs, with a sum above n
pub record IsBoundedAbove (n : ℤ) (width limit : ℕ) (table : List (List ℕ)) (u v : List ℤ) : Type 0 where
  pub bounded : IsBounded width table u v
  pub u_within : All (IsWithin limit) u
  pub v_within : All (IsWithin limit) v
  pub above : n <ℤ (total u +ℤ total v)
