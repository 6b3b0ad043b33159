use Rattle.std.proofs.Common.{◌≡◌, [], ◌++◌}
use Rattle.std.specs.List.{flat_map, range_with_len}
use Rattle.retraction_bars.specs.Clauses.{clauses_to}
use Rattle.retraction_bars.proofs.gathering.clauses.Given as goal

abbrev pub invariant-loop-i : goal.invariant-loop-i
invariant-loop-i l = l.out.items ≡ [] ++ flat_map (clauses_to l.query) (range_with_len 0 l.i)
