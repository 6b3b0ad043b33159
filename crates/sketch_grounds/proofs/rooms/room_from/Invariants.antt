use Rattle.std.proofs.Common.{◌-◌}
use Rattle.general_lemmas.proofs.Rounds.{count}
use Rattle.sketch_grounds.proofs.Pacing.{Grown}
use Rattle.sketch_grounds.proofs.rooms.room_from.Given as goal

abbrev pub invariant-steps : goal.invariant-steps
invariant-steps l = Grown l.fn.wall l.zones l.fn.man l.fn.from l.within

abbrev pub decreases-steps : goal.decreases-steps
decreases-steps l = 64 - count l.within
