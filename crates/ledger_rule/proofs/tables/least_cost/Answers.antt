use Rattle.std.proofs.Common.{arith}
use Rattle.ledger_rule.proofs.tables.least_cost.Goals as goal

pub returns-clause-small : goal.returns-clause-small
returns-clause-small c = omega (arith, c.solve_large.ensures.small 5000 c.requires, c.requires.rows)
