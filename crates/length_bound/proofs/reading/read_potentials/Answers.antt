use Rattle.length_bound.proofs.NearDuals.{duals_known}
use Rattle.length_bound.proofs.reading.read_potentials.Goals as goal

pub potentials_with-requires : goal.potentials_with-requires
potentials_with-requires c = duals_known c.args.text.now _ c.in-Some.ensures
