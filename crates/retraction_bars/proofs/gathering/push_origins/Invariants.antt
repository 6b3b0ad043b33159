use Rattle.std.proofs.Common.{◌≡◌, ◌++◌}
use Rattle.std.specs.List.{flat_map, range_with_len}
use Rattle.retraction_bars.specs.Clauses.{clauses_from}
use Rattle.retraction_bars.proofs.gathering.push_origins.Given as goal

abbrev pub invariant-loop-i : goal.invariant-loop-i
invariant-loop-i l = l.out.items ≡ l.fn.out.items ++ flat_map (clauses_from l.query l.ways l.to) (range_with_len 0 l.i)
