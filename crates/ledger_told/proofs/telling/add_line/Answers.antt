use Rattle.std.proofs.Common.{ap, sym, ◌∙◌, ◌++◌, append-nil}
use Rattle.std.specs.Prelude.{Option}
use Rattle.ledger_lines.specs.declared.lines.Line.{Line}
use Rattle.ledger_told.specs.Told.{one_line}
use Rattle.ledger_told.proofs.telling.add_line.Goals as goal

pub returns-in_ok-push-in-Some : goal.returns-in_ok-push-in-Some
returns-in_ok-push-in-Some c = c.in_ok-push-in-Some.ensures.items ∙ ap (λ (o : Option Line). c.args.lines.now.items ++ one_line o) (sym c.in-Some.is)

pub returns-in-None : goal.returns-in-None
returns-in-None c = sym (append-nil c.args.lines.now.items) ∙ ap (λ (o : Option Line). c.args.lines.now.items ++ one_line o) (sym c.in-None.is)
