use Rattle.std.proofs.Common.{◌≡◌, true, sym, ◌∙◌, subst}
use Rattle.ledger_lines.specs.declared.lines.Line.{Line}
use Rattle.ledger_lines.specs.contracts.lines.LinePartialEq.TheImpl as lines
use Rattle.ledger_told.proofs.SameLines.{exact, itself}
use Rattle.ledger_told.proofs.held.is_same_line.Goals as goal

pub returns : goal.returns
returns c = (
  λ h. exact c.args.a.now c.args.b.now (sym c.eq.ensures ∙ h),
  λ same. c.eq.ensures ∙ subst (λ (x : Line). lines.eq-value.it c.args.a.now x ≡ true) same (itself c.args.a.now),
)
