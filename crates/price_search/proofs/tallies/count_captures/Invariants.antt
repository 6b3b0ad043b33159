use Rattle.std.proofs.Common.{◌<◌}
use Rattle.price_search.proofs.tallies.count_captures.Given as goal

abbrev pub invariant-loop : goal.invariant-loop
invariant-loop l = l.i < 64
