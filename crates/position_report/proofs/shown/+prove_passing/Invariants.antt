use Rattle.std.proofs.Common.{length}
use Rattle.position_report.proofs.shown.+prove_passing.Given as goal

abbrev pub decreases-prove_passing : goal.decreases-prove_passing
decreases-prove_passing l = length l.rights.now
