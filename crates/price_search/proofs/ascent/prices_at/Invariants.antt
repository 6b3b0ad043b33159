use Rattle.std.proofs.Common.{◌≤◌}
use Rattle.price_search.proofs.ascent.prices_at.Given as goal

abbrev pub invariant-loop-i : goal.invariant-loop-i
invariant-loop-i l = l.count ≤ 16
