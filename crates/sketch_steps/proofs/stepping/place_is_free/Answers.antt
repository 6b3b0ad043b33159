use Rattle.std.proofs.Common.{ap, ◌∙◌}
use Rattle.figures.specs.Steps.{Step}
use Rattle.sketch_steps.specs.Stepping.{has_next}
use Rattle.sketch_steps.proofs.Telling.{place-made}
use Rattle.sketch_steps.proofs.stepping.place_is_free.Goals as goal

pub returns : goal.returns
returns c = place-made c.args.sketch.now c.args.step.now c.has_next.result c.all_yield-free.result (c.has_next.ensures ∙ ap (λ (x : Step). has_next c.args.sketch.now x.place) c.step.view_is) c.all_yield-free.ensures
