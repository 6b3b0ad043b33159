-- What other rows cost beside a row that has a column, and tables of which one row or one column is changed.
use Rattle.std.specs.Prelude.{ℕ, ◌≡◌, ◌≢◌, ◌+◌, ◌<◌, ◌≤◌, List, length, slice_index}
use Rattle.assignment.specs.Tables.{cost_at}
use Rattle.assignment.specs.Assignments.{IsInjection, assignment_cost}

-- The other fifteen rows cost at least so much with the other columns, where row i has column j: no assignment in which it has it costs less,
-- and one costs this.
pub record IsRest (table : List (List ℕ)) (i j rest : ℕ) : Type 0 where
  pub small : rest ≤ 1048560
  pub below : (columns : List ℕ) → IsInjection 16 16 columns → slice_index columns i ≡ j → rest + cost_at table i j ≤ assignment_cost table columns
  pub columns : List ℕ
  pub injection : IsInjection 16 16 columns
  pub has : slice_index columns i ≡ j
  pub reached : assignment_cost table columns ≡ rest + cost_at table i j

-- so for each row and column
abbrev pub AreRests : List (List ℕ) → List (List ℕ) → Type 0
AreRests table rests = (i j : ℕ) → i < 16 → j < 16 → IsRest table i j (cost_at rests i j)

-- sixteen rows that cost the same as before, but row i costs so much
pub record IsRowChanged (i : ℕ) (row : List ℕ) (old new : List (List ℕ)) : Type 0 where
  pub size : length new ≡ 16
  pub here : (c : ℕ) → c < 16 → cost_at new i c ≡ slice_index row c
  pub others : (r c : ℕ) → r < 16 → c < 16 → r ≢ i → cost_at new r c ≡ cost_at old r c

-- sixteen rows that cost the same as before, but so much in column j
pub record IsColumnChanged (j : ℕ) (column : List ℕ) (old new : List (List ℕ)) : Type 0 where
  pub size : length new ≡ 16
  pub here : (r : ℕ) → r < 16 → cost_at new r j ≡ slice_index column r
  pub others : (r c : ℕ) → r < 16 → c < 16 → c ≢ j → cost_at new r c ≡ cost_at old r c
