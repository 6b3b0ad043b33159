use Rattle.std.proofs.Common.{◌≡◌, ◌+◌, ◌<◌, ◌≤◌, ℕ, slice_index}
use Rattle.assignment.specs.Tables.{cost_at}
use Rattle.ledger_pairings.proofs.changes.cost_with_column.Given as goal

abbrev pub invariant-loop-r : goal.invariant-loop-r
invariant-loop-r l = record {
  bound : (k : ℕ) → k < l.r → l.least ≤ cost_at l.rests k l.j + slice_index l.column k;
  reached : (k : ℕ) × (k < 16) × (l.least ≡ cost_at l.rests k l.j + slice_index l.column k);
}
