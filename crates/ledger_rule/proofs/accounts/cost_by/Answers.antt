use Rattle.std.proofs.Common.{ap, sym, ◌∙◌}
use Rattle.ledger_facts.specs.Accounts.{side_cost_if}
use Rattle.ledger_facts.specs.declared.suppositions.Supposition.{Supposition}
use Rattle.ledger_rule.proofs.Counted.{least-cost, most-cost}
use Rattle.ledger_rule.proofs.accounts.cost_by.Goals as goal

pub returns-in-AtMost : goal.returns-in-AtMost
returns-in-AtMost c = λ o p set side is.
    is.cost ∙ sym (most-cost c.in-AtMost.field-0 c.in-AtMost.field-1 c.in-AtMost.field-2 o c.args.board.now p set side) ∙ ap (λ (x : Supposition). side_cost_if x o c.args.board.now p set side) (sym c.in-AtMost.is)

pub returns-in-AtLeast : goal.returns-in-AtLeast
returns-in-AtLeast c = λ o p set side is.
    is.cost ∙ sym (least-cost c.in-AtLeast.field-0 c.in-AtLeast.field-1 c.in-AtLeast.field-2 o c.args.board.now p set side) ∙ ap (λ (x : Supposition). side_cost_if x o c.args.board.now p set side) (sym c.in-AtLeast.is)
