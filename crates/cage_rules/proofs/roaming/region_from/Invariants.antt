use Rattle.std.proofs.Common.{◌-◌}
use Rattle.general_lemmas.proofs.Rounds.{count}
use Rattle.cage_rules.proofs.Spread.{Grown}
use Rattle.cage_rules.proofs.roaming.region_from.Given as goal

abbrev pub invariant-steps : goal.invariant-steps
invariant-steps l = Grown l.fn.frozen l.fn.man l.fn.from l.within

abbrev pub decreases-steps : goal.decreases-steps
decreases-steps l = 64 - count l.within
