use Rattle.std.proofs.Common.{ℕ, ◌<◌, slice_index, slice_index_or, pos, ◌+ℤ◌, ◌≤ℤ◌}
use Rattle.assignment.proofs.bounds.row_is_bounded.Given as goal

abbrev pub invariant-loop-j : goal.invariant-loop-j
invariant-loop-j g l = (j : ℕ) → j < l.j → (l.u +ℤ slice_index_or l.v j (pos 0)) ≤ℤ pos (slice_index l.row j)
