use Rattle.std.proofs.Common.{◌≡◌, length, map, reverse}
use Rattle.cert_checker.specs.Frames.{ended, go_on}
use Rattle.cert_checker.specs.Framing.{IsStack, due_of, popped, walking}
use Rattle.cert_checker.proofs.frames.settle.Given as goal

abbrev pub invariant-closed : goal.invariant-closed
invariant-closed l = record {
  walk : go_on (walking l.fn.found (reverse l.fn.frames.items)) ended ≡ go_on (walking l.first (reverse l.frames.items)) ended;
  due : popped (map due_of (reverse l.fn.frames.items)) ≡ popped (map due_of (reverse l.frames.items));
  stack : IsStack (reverse l.frames.items);
}

abbrev pub decreases-closed : goal.decreases-closed
decreases-closed l = length l.frames.items
