-- No assignment costs more than a limit of the costs for each of its rows.
use Rattle.std.proofs.Common.{ℕ, suc, ◌*◌, ◌≤◌, List, [], ◌∷◌, length, slice_index, arith}
use Rattle.std.proofs.Math.Nat.{mul-suc}
use Rattle.assignment.specs.Tables.{IsLimit}
use Rattle.assignment.specs.Assignments.{assignment_cost}

pub assignment_cost-le : (limit : ℕ) (table : List (List ℕ)) (columns : List ℕ) → IsLimit table limit → assignment_cost table columns ≤ limit * length table
assignment_cost-le limit [] columns most = omega arith
assignment_cost-le limit (row ∷ table) [] most = omega arith
assignment_cost-le limit (row ∷ table) (j ∷ columns) most =
    let here : slice_index row j ≤ limit = most 0 j in
    let rest = assignment_cost-le limit table columns (λ i j. most (suc i) j) in
    omega (arith, mul-suc limit (length table))
