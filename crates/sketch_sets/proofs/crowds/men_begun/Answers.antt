use Rattle.sketch_sets.proofs.Lodging.{begun-made}
use Rattle.sketch_sets.proofs.crowds.men_begun.Goals as goal

pub returns : goal.returns
returns c = begun-made c.args.odds c.args.colour c.array_of.result c.men_of.result c.count.result c.array_of.ensures c.men_of.ensures c.count.ensures
