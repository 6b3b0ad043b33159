-- Which of the least assignments is named.
use Rattle.std.specs.Prelude.{ℕ, ◌≡◌, ◌==◌, List, length, Some}
use Rattle.std.specs.List.{find}
use Rattle.assignment.specs.Assignments.{assignment_cost, injections, least_cost}

-- The first of all injections with the least cost. They come in the order of the column of the last row, where that is the same in the
-- order of the column of the row before it, and so on: so the last row has the lowest column that a least assignment gives it, the row
-- before it the lowest that such an assignment gives it then, and so on to the first.
abbrev pub IsFirstPairing : ℕ → List (List ℕ) → List ℕ → Type 0
IsFirstPairing width table columns =
    find (λ way. assignment_cost table way == least_cost width table) (injections width (length table)) ≡ Some columns
