use Rattle.std.proofs.lemmas.Bool.{both_ways}
use Rattle.static_rules.proofs.Larger.{caps-decided, caps-greatest}
use Rattle.static_rules.proofs.closing.costly_line.Goals as goal

pub returns-then-needs_few : goal.returns-then-needs_few
returns-then-needs_few c = λ set p h. c.needs_few.ensures c.if-needs_few.true p.u p.v (caps-greatest c.args.query.now.odds c.args.query.now c.args.side c.args.settled c.requires.settled set p.u p.v h)

pub returns-else-is_above_with : goal.returns-else-is_above_with
returns-else-is_above_with c =
    let best = c.best_potentials-p.ensures.best c.args.query.now.odds c.args.side c.args.query.now.board c.requires.costs in
    λ set p h. both_ways _ c.if-is_above_with.false (c.is_above_with.ensures.1 (caps-decided c.args.query.now.odds c.args.query.now c.args.side c.args.settled c.best_potentials-p.result.u c.best_potentials-p.result.v c.requires.settled best set p.u p.v h))
