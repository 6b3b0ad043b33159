use Rattle.ledger_search.proofs.Closing.{closed, closed-reached}
use Rattle.ledger_search.proofs.laws.contradictions_close.Goals as goal

pub returns-clause-leads : goal.returns-clause-leads
returns-clause-leads c = closed

pub returns-clause-reached : goal.returns-clause-reached
returns-clause-reached c = closed-reached
