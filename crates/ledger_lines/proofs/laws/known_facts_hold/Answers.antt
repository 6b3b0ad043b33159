use Rattle.ledger_lines.proofs.Holding.{known-holds, known-reached}
use Rattle.ledger_lines.proofs.laws.known_facts_hold.Goals as goal

pub returns-clause-leads : goal.returns-clause-leads
returns-clause-leads c = known-holds

pub returns-clause-reached : goal.returns-clause-reached
returns-clause-reached c = known-reached
