-- Inner: no public clause cites this file.
-- Injections that end as given.
use Rattle.std.specs.Prelude.{ℕ, zero, suc, ◌≡◌, ◌⊎◌, ◌==◌, ◌≤◌, ◌+◌, true, false, not, List, [], ◌∷◌, ◌++◌, length, take, Option, None, Some}
use Rattle.std.specs.List.{filter, find, flat_map, range_with_len}
use Rattle.arrayvec.specs.ArrayVec.{ArrayVec}
use Rattle.assignment.specs.Assignments.{IsInjection, assignment_cost, is_among}

-- all injections into the columns below the width that end with these columns, with so many more before them, in the order of all
unfoldable pub injections_ending : ℕ → ℕ → List ℕ → List (List ℕ)
injections_ending width zero columns = columns ∷ []
injections_ending width (suc more) columns =
    flat_map (λ j. injections_ending width more (j ∷ columns)) (filter (λ j. not (is_among j columns)) (range_with_len 0 width))

-- what is found, as a list
abbrev pub items_found : Option (ArrayVec ℕ) → Option (List ℕ)
items_found None = None
items_found (Some columns) = Some columns.items

-- so many first rows cost at least this where the others have these columns
abbrev pub CostAtLeast : ℕ → List (List ℕ) → ℕ → List ℕ → ℕ → Type 0
CostAtLeast width table left columns cost =
    (front : List ℕ) → length front ≡ left → IsInjection width (left + length columns) (front ++ columns) → cost ≤ assignment_cost (take left table) front

-- the column is taken, or no assignment of this cost has it before these columns
abbrev pub IsOut : ℕ → List (List ℕ) → ℕ → ℕ → List ℕ → ℕ → Type 0
IsOut width table least more columns j =
    (is_among j columns ≡ true) ⊎ ((is_among j columns ≡ false) × (find (λ way. assignment_cost table way == least) (injections_ending width more (j ∷ columns)) ≡ None))
