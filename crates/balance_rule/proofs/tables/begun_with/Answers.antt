use Rattle.std.proofs.Common.{arith, ap}
use Rattle.balance_rule.specs.Balance.{men_on}
use Rattle.balance_rule.proofs.Rowed.{begun-few}
use Rattle.balance_rule.proofs.tables.begun_with.Goals as goal

pub returns-clause-few : goal.returns-clause-few
returns-clause-few c = omega (arith, c.men_on.ensures.number, ap (men_on c.args.side) c.array_of.ensures, begun-few c.args.side c.args.odds)
