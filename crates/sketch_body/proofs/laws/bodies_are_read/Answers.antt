use Rattle.sketch_body.proofs.Readings.{whole_law}
use Rattle.sketch_body.proofs.laws.bodies_are_read.Goals as goal

pub returns : goal.returns
returns c = whole_law
