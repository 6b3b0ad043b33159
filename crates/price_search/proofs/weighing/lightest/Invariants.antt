use Rattle.std.proofs.Common.{◌<◌}
use Rattle.price_search.proofs.weighing.lightest.Given as goal

abbrev pub invariant-loop-i : goal.invariant-loop-i
invariant-loop-i l = l.at < 16
