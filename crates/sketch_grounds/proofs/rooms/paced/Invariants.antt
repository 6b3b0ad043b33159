use Rattle.std.proofs.Common.{◌-◌}
use Rattle.sketch_grounds.proofs.Pruning.{Pruned}
use Rattle.sketch_grounds.proofs.rooms.paced.Given as goal

abbrev pub invariant-doubts : goal.invariant-doubts
invariant-doubts l = Pruned l.fn.kind l.fn.wall l.zones l.fn.within l.doubtful l.more l.i

abbrev pub decreases-doubts : goal.decreases-doubts
decreases-doubts l = 64 - l.i
