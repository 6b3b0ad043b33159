use Rattle.ledger_facts.proofs.Listed.{way-tested}
use Rattle.ledger_facts.proofs.lines.ways_are_listed.Goals as goal

pub returns : goal.returns
returns c = way-tested
