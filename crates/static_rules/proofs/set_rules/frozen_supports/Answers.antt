use Rattle.static_rules.proofs.Closed.{frozen-unreached}
use Rattle.static_rules.proofs.set_rules.frozen_supports.Goals as goal

pub returns-clause-unreached : goal.returns-clause-unreached
returns-clause-unreached c = λ yes g reaches. frozen-unreached c.args.query.now c.args.set (c.is_changed.ensures.0 yes) g reaches
