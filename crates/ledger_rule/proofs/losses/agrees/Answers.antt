use Rattle.std.proofs.Common.{Bool, ap, sym, ◌∙◌}
use Rattle.std.specs.Bool.{beq}
use Rattle.ledger_rule.proofs.Told.{beq-false, beq-true}
use Rattle.ledger_rule.proofs.losses.agrees.Goals as goal

pub returns-then-first : goal.returns-then-first
returns-then-first c = sym (ap (λ (b : Bool). beq b c.args.second) c.if-first.true ∙ beq-true c.args.second)

pub returns-else-first : goal.returns-else-first
returns-else-first c = sym (ap (λ (b : Bool). beq b c.args.second) c.if-first.false ∙ beq-false c.args.second)
