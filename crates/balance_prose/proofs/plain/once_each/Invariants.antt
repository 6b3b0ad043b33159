use Rattle.std.proofs.Common.{◌≡◌, length, map, take}
use Rattle.balance_prose.specs.Counted.{once}
use Rattle.balance_prose.proofs.plain.once_each.Given as goal

abbrev pub invariant-loop-i : goal.invariant-loop-i
invariant-loop-i l = record {
  size : length l.each ≡ 16;
  same : take l.i l.each ≡ map once (take l.i l.takes);
}
