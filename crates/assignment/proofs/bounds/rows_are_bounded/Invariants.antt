use Rattle.std.proofs.Common.{ℕ, ◌<◌, slice_index_or, pos, ◌+ℤ◌, ◌≤ℤ◌}
use Rattle.assignment.specs.Tables.{cost_at}
use Rattle.assignment.proofs.bounds.rows_are_bounded.Given as goal

abbrev pub invariant-loop-i : goal.invariant-loop-i
invariant-loop-i g l = (i j : ℕ) → i < l.i → j < g.row.W → (slice_index_or l.u i (pos 0) +ℤ slice_index_or l.v j (pos 0)) ≤ℤ pos (cost_at l.costs i j)
