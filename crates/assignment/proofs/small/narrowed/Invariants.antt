use Rattle.std.proofs.Common.{◌≡◌, take}
use Rattle.assignment.proofs.small.narrowed.Given as goal

abbrev pub invariant-loop-x : goal.invariant-loop-x
invariant-loop-x g l = l.narrowed.items ≡ take l.x-index l.numbers.items
