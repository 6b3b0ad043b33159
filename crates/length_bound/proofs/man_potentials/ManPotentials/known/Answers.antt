use Rattle.length_bound.proofs.Duals.{IsStored-known}
use Rattle.length_bound.proofs.man_potentials.ManPotentials.known.Goals as goal

pub invariant_of-result : goal.invariant_of-result
invariant_of-result c = IsStored-known c.args.u.now c.args.v.now c.copy_from_slice.new.self c.copy_from_slice.ensures.after c.requires
