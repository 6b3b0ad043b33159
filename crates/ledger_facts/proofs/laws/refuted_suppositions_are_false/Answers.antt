use Rattle.ledger_facts.proofs.Sound.{refuted, refuted-reached}
use Rattle.ledger_facts.proofs.laws.refuted_suppositions_are_false.Goals as goal

pub returns-clause-leads : goal.returns-clause-leads
returns-clause-leads c = refuted

pub returns-clause-reached : goal.returns-clause-reached
returns-clause-reached c = refuted-reached
