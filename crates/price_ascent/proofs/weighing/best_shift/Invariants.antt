use Rattle.std.proofs.Common.{◌<◌}
use Rattle.price_ascent.proofs.weighing.best_shift.Given as goal

abbrev pub invariant-loop-i : goal.invariant-loop-i
invariant-loop-i l = (l.from < 16) × (l.to < 16)
