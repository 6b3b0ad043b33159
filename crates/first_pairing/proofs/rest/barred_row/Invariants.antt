use Rattle.std.proofs.Common.{◌≡◌, ℕ, ◌≤◌, false, length, slice_index}
use Rattle.std.specs.List.{All}
use Rattle.assignment.specs.Assignments.{is_among}
use Rattle.first_pairing.proofs.rest.barred_row.Given as goal

abbrev pub invariant-loop-j : goal.invariant-loop-j
invariant-loop-j l = record {
  size : length l.barred ≡ 16;
  small : All (λ cost. cost ≤ 32767) l.barred;
  same : (j : ℕ) → is_among j l.columns.items ≡ false → slice_index l.barred j ≡ slice_index l.row j;
}
