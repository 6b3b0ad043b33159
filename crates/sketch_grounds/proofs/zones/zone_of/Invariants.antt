use Rattle.std.proofs.Common.{◌-◌}
use Rattle.general_lemmas.proofs.Rounds.{count}
use Rattle.sketch_grounds.proofs.Backing.{Growing}
use Rattle.sketch_grounds.proofs.zones.zone_of.Given as goal

abbrev pub invariant-steps : goal.invariant-steps
invariant-steps l = Growing l.fn.wall l.figure l.within

abbrev pub decreases-steps : goal.decreases-steps
decreases-steps l = 64 - count l.within
