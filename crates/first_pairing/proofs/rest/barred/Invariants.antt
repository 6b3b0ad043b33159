use Rattle.std.proofs.Common.{◌≡◌, ℕ, ◌<◌, false, length}
use Rattle.assignment.specs.Assignments.{is_among}
use Rattle.assignment.specs.Tables.{IsTable, cost_at}
use Rattle.first_pairing.proofs.rest.barred.Given as goal

abbrev pub invariant-loop-i : goal.invariant-loop-i
invariant-loop-i l = record {
  table : IsTable l.rows.items 16 32767;
  size : length l.rows.items ≡ l.i;
  same : (i j : ℕ) → i < l.i → is_among j l.columns.items ≡ false → cost_at l.rows.items i j ≡ cost_at l.costs i j;
}
