use Rattle.std.proofs.Common.{◌≡◌, length, take}
use Rattle.assignment.proofs.small.widened_row.Given as goal

abbrev pub invariant-loop-j : goal.invariant-loop-j
invariant-loop-j g l = record {
  size : length l.widened ≡ g.row.W;
  same : take l.j l.widened ≡ take l.j l.row;
}
