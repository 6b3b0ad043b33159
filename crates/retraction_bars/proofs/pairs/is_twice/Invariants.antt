use Rattle.std.proofs.Common.{◌≡◌, ◌-◌}
use Rattle.std.specs.List.{list_all, range_with_len}
use Rattle.retraction_bars.specs.Pairs.{is_twice, is_twice_at}
use Rattle.retraction_bars.proofs.pairs.is_twice.Given as goal

abbrev pub invariant-loop-i : goal.invariant-loop-i
invariant-loop-i l = list_all (is_twice_at l.query l.a l.b) (range_with_len l.i (64 - l.i)) ≡ is_twice l.query l.a l.b
