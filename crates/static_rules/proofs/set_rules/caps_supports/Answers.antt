use Rattle.static_rules.proofs.Closed.{caps-unreached}
use Rattle.static_rules.proofs.set_rules.caps_supports.Goals as goal

pub returns-clause-unreached : goal.returns-clause-unreached
returns-clause-unreached c = λ yes g reaches. caps-unreached c.args.query.now c.args.side c.args.set c.args.p.now.u c.args.p.now.v (c.caps_holds.ensures.0 yes) g reaches
