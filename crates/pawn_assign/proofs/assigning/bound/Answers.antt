use Rattle.std.proofs.Common.{◌+ℤ◌, rules}
use Rattle.std.specs.Prelude.{SomeIff}
use Rattle.assignment.specs.Assignments.{IsBounded, total}
use Rattle.assignment.proofs.Duality.{no_less}
use Rattle.pawn_assign.proofs.assigning.bound.Goals as goal

pub returns-clause-none_less : goal.returns-clause-none_less
returns-clause-none_less c =
    let bound : SomeIff c.bound.result (IsBounded 8 c.args.c.now c.args.p.now.u c.args.p.now.v) (total c.args.p.now.u +ℤ total c.args.p.now.v) = search rules in
    no_less 8 c.args.c.now c.args.p.now.u c.args.p.now.v c.bound.result bound
