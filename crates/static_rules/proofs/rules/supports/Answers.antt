use Rattle.static_rules.proofs.Unreached.{unreached}
use Rattle.static_rules.proofs.rules.supports.Goals as goal

pub returns-clause-unreached : goal.returns-clause-unreached
returns-clause-unreached c = λ yes. unreached c.args.query.now c.args.rule.now (c.breaks_law.ensures.0 yes)
