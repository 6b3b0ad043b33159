use Rattle.std.proofs.Common.{length}
use Rattle.ledger_prose.proofs.news.+say_unmoved.Given as goal

abbrev pub decreases-say_unmoved : goal.decreases-say_unmoved
decreases-say_unmoved l = length l.lines.now
