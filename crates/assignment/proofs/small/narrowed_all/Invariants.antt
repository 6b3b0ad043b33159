use Rattle.std.proofs.Common.{◌≡◌, length, take}
use Rattle.assignment.proofs.small.narrowed_all.Given as goal

abbrev pub invariant-loop-j : goal.invariant-loop-j
invariant-loop-j g l = record {
  size : length l.narrowed ≡ g.row.W;
  same : take l.j l.narrowed ≡ take l.j l.numbers;
}
