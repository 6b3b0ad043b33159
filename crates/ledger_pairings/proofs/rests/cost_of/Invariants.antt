use Rattle.std.proofs.Common.{◌≡◌, ◌+◌, ◌*◌, ◌≤◌, drop}
use Rattle.assignment.specs.Assignments.{assignment_cost}
use Rattle.ledger_pairings.proofs.rests.cost_of.Given as goal

abbrev pub invariant-loop-r : goal.invariant-loop-r
invariant-loop-r l = record {
  value : l.sum + assignment_cost (drop l.r l.rows) (drop l.r l.columns) ≡ assignment_cost l.rows l.columns;
  small : l.sum ≤ 65535 * l.r;
}
