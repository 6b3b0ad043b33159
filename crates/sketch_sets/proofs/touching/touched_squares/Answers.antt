use Rattle.std.proofs.Common.{rules}
use Rattle.sketch_sets.specs.Grounds.{touched_by}
use Rattle.sketch_sets.proofs.Touched.{touched-made}
use Rattle.sketch_sets.proofs.touching.touched_squares.Goals as goal

pub returns : goal.returns
returns c = touched-made c.args.sketch.now c.args.colour c.over_figures-touched.result c.is_whole.ensures (λ s low. c.over_figures-touched.ensures s (touched_by c.args.colour s) low (λ f set post. search rules))
