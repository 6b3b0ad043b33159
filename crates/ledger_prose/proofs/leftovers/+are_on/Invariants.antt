use Rattle.std.proofs.Common.{length}
use Rattle.ledger_prose.proofs.leftovers.+are_on.Given as goal

abbrev pub decreases-are_on : goal.decreases-are_on
decreases-are_on l = length l.ways.now
