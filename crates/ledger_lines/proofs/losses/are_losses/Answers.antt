use Rattle.std.proofs.Common.{sym, ◌∙◌}
use Rattle.ledger_lines.proofs.SameLosses.{equal-same, same-equal}
use Rattle.ledger_lines.proofs.losses.are_losses.Goals as goal

pub returns : goal.returns
returns c = (
  λ yes. same-equal c.args.losses.now c.losses_of-lost.result (sym c.are_same.ensures ∙ yes) ∙ c.losses_of-lost.ensures,
  λ is. c.are_same.ensures ∙ equal-same c.args.losses.now c.losses_of-lost.result (is ∙ sym c.losses_of-lost.ensures),
)
