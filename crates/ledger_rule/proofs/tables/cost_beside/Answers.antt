use Rattle.std.proofs.Common.{ap, ◌∙◌}
use Rattle.assignment.specs.Assignments.{least_cost}
use Rattle.ledger_rule.proofs.tables.cost_beside.Goals as goal

pub returns-clause-value : goal.returns-clause-value
returns-clause-value c = λ o p ground begun.
    let table = c.in_ok-rows.ensures.items o p ground begun in
    (table.0, c.least_cost.ensures.value ∙ ap (least_cost 16) (c.as_slice.ensures.value ∙ table.1))
