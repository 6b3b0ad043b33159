use Rattle.std.proofs.Common.{◌+◌, ◌*◌}
use Rattle.proof_story.proofs.telling.Teller.+story.Given as goal

abbrev pub decreases-tell : goal.decreases-tell
decreases-tell l = 2 * l.depth

abbrev pub decreases-tell_group : goal.decreases-tell_group
decreases-tell_group l = 2 * l.depth + 1
