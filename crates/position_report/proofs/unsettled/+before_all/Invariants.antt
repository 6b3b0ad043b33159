use Rattle.std.proofs.Common.{length}
use Rattle.position_report.proofs.unsettled.+before_all.Given as goal

abbrev pub decreases-before_all : goal.decreases-before_all
decreases-before_all l = length l.steps.now
