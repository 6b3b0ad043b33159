use Rattle.sketch_sets.proofs.Lodging.{crowd-made}
use Rattle.sketch_sets.proofs.crowds.is_crowded.Goals as goal

pub returns : goal.returns
returns c = crowd-made c.args.odds c.args.sketch.now c.args.colour c.men_begun-begun.result c.figures_of-now.result c.men_begun-begun.ensures c.figures_of-now.ensures
