use Rattle.std.proofs.Common.{◌≡◌, ◌+◌, ◌<◌, ◌≤◌, ℕ, slice_index}
use Rattle.assignment.specs.Tables.{cost_at}
use Rattle.ledger_pairings.proofs.changes.cost_with_row.Given as goal

abbrev pub invariant-loop-c : goal.invariant-loop-c
invariant-loop-c l = record {
  bound : (k : ℕ) → k < l.c → l.least ≤ cost_at l.rests l.i k + slice_index l.row k;
  reached : (k : ℕ) × (k < 16) × (l.least ≡ cost_at l.rests l.i k + slice_index l.row k);
}
