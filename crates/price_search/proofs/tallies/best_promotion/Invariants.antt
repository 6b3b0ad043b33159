use Rattle.std.proofs.Common.{◌<◌}
use Rattle.price_search.proofs.tallies.best_promotion.Given as goal

abbrev pub invariant-loop-g : goal.invariant-loop-g
invariant-loop-g l = l.best < 64
