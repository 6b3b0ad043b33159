-- Tables of costs: a list of rows, each with a cost for each of the columns.
use Rattle.std.specs.Prelude.{ℕ, ◌≤◌, List, [], length, slice_index_or}

-- what it costs to give this row this column
abbrev pub cost_at : List (List ℕ) → ℕ → ℕ → ℕ
cost_at table i j = slice_index_or (slice_index_or table i []) j 0

-- no cost is above the limit
abbrev pub IsLimit : List (List ℕ) → ℕ → Type 0
IsLimit table limit = (i j : ℕ) → cost_at table i j ≤ limit

-- no more rows than columns, few columns, and no cost above the limit
pub record IsTable (table : List (List ℕ)) (width limit : ℕ) : Type 0 where
  pub rows : length table ≤ width
  pub few : width ≤ 64
  pub costs : IsLimit table limit
