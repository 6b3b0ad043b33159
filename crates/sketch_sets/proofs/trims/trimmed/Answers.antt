use Rattle.std.proofs.Common.{◌∙◌, rules}
use Rattle.sketch_sets.specs.Tests.{kept_squares}
use Rattle.sketch_sets.proofs.Trimming.{trimmed-made}
use Rattle.sketch_sets.proofs.trims.trimmed.Goals as goal

pub returns : goal.returns
returns c = c.with_sets.ensures (kept_squares c.args.sketch.now c.fixed_squares-fixed.result) (λ f set post. search rules) ∙ trimmed-made c.args.sketch.now c.fixed_squares-fixed.result c.fixed_squares-fixed.ensures
