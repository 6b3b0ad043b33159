use Rattle.std.proofs.Common.{◌≤◌}
use Rattle.price_ascent.proofs.rows.PriceRow.prices.Given as goal

abbrev pub invariant-loop-i : goal.invariant-loop-i
invariant-loop-i l = l.count ≤ 16
