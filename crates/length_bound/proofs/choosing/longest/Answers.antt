use Rattle.length_bound.proofs.Longer.{longer_best, longer_chosen, longer_none, longer_small}
use Rattle.length_bound.proofs.choosing.longest.Goals as goal

pub returns-clause-best : goal.returns-clause-best
returns-clause-best c = rw c.longer.ensures (longer_best c.args.query.now c.best_of.result c.best_of-2.result c.best_of.ensures c.best_of-2.ensures)

pub returns-clause-side : goal.returns-clause-side
returns-clause-side c = rw c.longer.ensures (longer_chosen c.args.query.now c.best_of.result c.best_of-2.result c.best_of.ensures c.best_of-2.ensures)

pub returns-clause-none : goal.returns-clause-none
returns-clause-none c = rw c.longer.ensures (longer_none c.args.query.now c.best_of.result c.best_of-2.result c.best_of.ensures c.best_of-2.ensures)

pub returns-clause-small : goal.returns-clause-small
returns-clause-small c = rw c.longer.ensures (longer_small c.args.query.now c.best_of.result c.best_of-2.result c.best_of.ensures c.best_of-2.ensures)
