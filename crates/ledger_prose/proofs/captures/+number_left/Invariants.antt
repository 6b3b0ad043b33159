use Rattle.std.proofs.Common.{length}
use Rattle.ledger_prose.proofs.captures.+number_left.Given as goal

abbrev pub decreases-number_left : goal.decreases-number_left
decreases-number_left l = length l.ways.now
