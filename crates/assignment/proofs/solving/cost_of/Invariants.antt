use Rattle.std.proofs.Common.{◌≡◌, ◌+◌, ◌*◌, ◌≤◌, drop}
use Rattle.assignment.specs.Assignments.{assignment_cost}
use Rattle.assignment.proofs.solving.cost_of.Given as goal

abbrev pub invariant-loop-i : goal.invariant-loop-i
invariant-loop-i g l = record {
  value : l.sum + assignment_cost (drop l.i l.costs) (drop l.i l.columns) ≡ assignment_cost l.costs l.columns;
  small : l.sum ≤ 32767 * l.i;
}
