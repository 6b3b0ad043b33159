use Rattle.std.proofs.Common.{◌≡◌, arith, rules}
use Rattle.assignment.specs.Assignments.{least_cost}
use Rattle.assignment.proofs.Injections.{least_cost-le}
use Rattle.pawn_assign.proofs.assigning.least.Goals as goal

pub returns-clause-none_less : goal.returns-clause-none_less
returns-clause-none_less c = λ files injection.
    let least : c.solve-solution.result.cost ≡ least_cost 8 c.args.c.now = search rules in
    let low = least_cost-le 8 c.args.c.now files injection in
    omega arith
