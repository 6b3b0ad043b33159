use Rattle.static_rules.proofs.Closed.{promo-unreached}
use Rattle.static_rules.proofs.set_rules.promo_supports.Goals as goal

pub returns-clause-unreached : goal.returns-clause-unreached
returns-clause-unreached c = λ yes g reaches. promo-unreached c.args.query.now c.args.side c.args.set (c.promo_holds.ensures.0 yes) g reaches
