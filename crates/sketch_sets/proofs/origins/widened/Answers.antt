use Rattle.std.proofs.Common.{◌∙◌, rules}
use Rattle.sketch_sets.specs.Wide.{wide_set_on}
use Rattle.sketch_sets.proofs.Wayside.{widened-made}
use Rattle.sketch_sets.proofs.origins.widened.Goals as goal

pub returns : goal.returns
returns c = c.with_sets.ensures (wide_set_on c.ground_of-ground.result c.args.exact.now c.args.sketch.now) (λ f set post. search rules) ∙ widened-made c.args.held c.args.exact.now c.args.sketch.now c.ground_of-ground.result c.ground_of-ground.ensures
