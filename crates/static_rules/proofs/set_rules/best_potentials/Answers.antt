use Rattle.static_rules.proofs.Best.{best-of}
use Rattle.static_rules.proofs.set_rules.best_potentials.Goals as goal

pub returns-clause-best : goal.returns-clause-best
returns-clause-best c o side board same = best-of o side board c.args.costs.now _ _ _ _ same c.least-p.ensures.bounded c.least-p.ensures.injection c.least-p.ensures.cost c.least-p.ensures.reached
