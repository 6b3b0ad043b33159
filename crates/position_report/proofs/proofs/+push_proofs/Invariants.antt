use Rattle.std.proofs.Common.{length}
use Rattle.position_report.proofs.proofs.+push_proofs.Given as goal

abbrev pub decreases-push_proofs : goal.decreases-push_proofs
decreases-push_proofs l = length l.all.now
