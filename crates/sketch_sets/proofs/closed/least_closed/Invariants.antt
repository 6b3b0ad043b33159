use Rattle.sketch_sets.proofs.Closing.{OnTheWay, gap}
use Rattle.sketch_sets.proofs.closed.least_closed.Given as goal

abbrev pub invariant-rounds : goal.invariant-rounds
invariant-rounds l = OnTheWay l.fn.held l.exact l.sketch l.wide

abbrev pub decreases-rounds : goal.decreases-rounds
decreases-rounds l = gap l.wide
