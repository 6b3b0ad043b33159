use Rattle.std.proofs.Common.{rules, ◌+ℤ◌}
use Rattle.std.specs.Prelude.{SomeIff}
use Rattle.assignment.specs.Assignments.{IsBounded, total}
use Rattle.length_bound.specs.ManDuals.{AreManPotentials}
use Rattle.length_bound.specs.SideBounds.{move_costs}
use Rattle.length_bound.proofs.Shown.{sum-small, too-many}
use Rattle.length_bound.proofs.lengths.sum_of.Goals as goal

pub returns-in-Some-clause-small : goal.returns-in-Some-clause-small
returns-in-Some-clause-small c =
    let answer : SomeIff c.bound.result (IsBounded 16 (move_costs c.args.odds c.args.side c.args.board.now) c.args.p.now.u c.args.p.now.v) (total c.args.p.now.u +ℤ total c.args.p.now.v) = search rules in
    let range : AreManPotentials c.args.p.now = c.u.ensures.range in
    sum-small (move_costs c.args.odds c.args.side c.args.board.now) c.args.p.now.u c.args.p.now.v c.bound.result answer range.men range.u_within

pub returns-in-None-clause-sum : goal.returns-in-None-clause-sum
returns-in-None-clause-sum c = λ bound. too-many c.args.odds c.args.side c.args.board.now c.args.p.now.u c.args.p.now.v c.in-None.ensures.items bound
