use Rattle.ledger_lines.proofs.LinesHolding.{known-line-holds, known-line-reached}
use Rattle.ledger_lines.proofs.laws.known_lines_hold.Goals as goal

pub returns-clause-leads : goal.returns-clause-leads
returns-clause-leads c = known-line-holds

pub returns-clause-reached : goal.returns-clause-reached
returns-clause-reached c = known-line-reached
