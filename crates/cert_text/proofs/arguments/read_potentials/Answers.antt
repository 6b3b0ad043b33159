use Rattle.cert_text.proofs.NearNumbers.{potentials_known}
use Rattle.cert_text.proofs.arguments.read_potentials.Goals as goal

pub potentials_with-requires : goal.potentials_with-requires
potentials_with-requires c = potentials_known c.args.text.now _ c.in-Some.ensures
