use Rattle.std.proofs.Common.{◌<◌, ◌≤◌, ◌∙◌, length, ap, arith}
use Rattle.std.specs.List.{filter}
use Rattle.assignment.specs.Assignments.{least_cost}
use Rattle.sketch_grounds.specs.Account.{is_figure_of}
use Rattle.sketch_account.specs.Counting.{counted_as}
use Rattle.sketch_account.proofs.tables.ground_cost.Goals as goal

pub returns-clause-value : goal.returns-clause-value
returns-clause-value c = λ p R ground.
    let made = c.in-Some.ensures.items c.args.odds p R ground c.begun_with-begun.ensures.number in
    let few : length (filter (is_figure_of c.args.ground.now.base.side) (counted_as c.args.against c.args.sketch.now)) ≤ c.begun_with-begun.result = made.0 in
    (omega (arith, few, c.begun_with-begun.ensures.number), c.least_cost.ensures.value ∙ ap (least_cost 16) (c.as_slice.ensures.value ∙ made.1))

pub returns-in_default-clause-value : goal.returns-in_default-clause-value
returns-in_default-clause-value c = λ p R ground.
    let more : c.begun_with-begun.result < length (filter (is_figure_of c.args.ground.now.base.side) (counted_as c.args.against c.args.sketch.now)) = c.in_default.ensures.items c.args.odds p R ground c.begun_with-begun.ensures.number in
    omega (arith, more, c.begun_with-begun.ensures.number)
