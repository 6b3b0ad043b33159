use Rattle.std.proofs.Common.{length}
use Rattle.verdict_prose.proofs.steps.+push_played.Given as goal

abbrev pub decreases-push_played : goal.decreases-push_played
decreases-push_played l = length l.before.now
