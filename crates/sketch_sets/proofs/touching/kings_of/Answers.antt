use Rattle.std.proofs.Common.{rules}
use Rattle.sketch_sets.specs.Grounds.{is_king_there}
use Rattle.sketch_sets.proofs.Touched.{kings-made}
use Rattle.sketch_sets.proofs.touching.kings_of.Goals as goal

pub returns : goal.returns
returns c = kings-made c.args.sketch.now c.args.colour c.over_figures-kings.result c.is_whole.ensures (λ q low. c.over_figures-kings.ensures q (is_king_there c.args.colour q) low (λ f set post. search rules))
