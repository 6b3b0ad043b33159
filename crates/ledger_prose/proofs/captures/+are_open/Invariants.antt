use Rattle.std.proofs.Common.{length}
use Rattle.ledger_prose.proofs.captures.+are_open.Given as goal

abbrev pub decreases-are_open : goal.decreases-are_open
decreases-are_open l = length l.ways.now
