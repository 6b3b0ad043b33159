use Rattle.std.proofs.Common.{◌≡◌, ◌*◌, take, pos, neg_ℤ, ◌≤ℤ◌}
use Rattle.assignment.specs.Assignments.{total}
use Rattle.assignment.proofs.bounds.total.Given as goal

abbrev pub invariant-loop-x : goal.invariant-loop-x
invariant-loop-x l = record {
  value : l.sum ≡ total (take l.x-index l.numbers);
  low : neg_ℤ (pos (128 * l.x-index)) ≤ℤ l.sum;
  high : l.sum ≤ℤ pos (128 * l.x-index);
}
