use Rattle.std.proofs.Common.{length}
use Rattle.ledger_prose.proofs.leftovers.+are_unplaced.Given as goal

abbrev pub decreases-are_unplaced : goal.decreases-are_unplaced
decreases-are_unplaced l = length l.ways.now
