use Rattle.std.proofs.Common.{ap, ◌∙◌}
use Rattle.figures.specs.Steps.{Step}
use Rattle.sketch_steps.specs.Stepping.{ends_are_free}
use Rattle.sketch_steps.proofs.Telling.{squares-made}
use Rattle.sketch_steps.proofs.stepping.squares_are_free.Goals as goal

pub returns : goal.returns
returns c = squares-made c.args.sketch.now c.args.figure.now c.args.step.now c.ends_are_free.result (c.ends_are_free.ensures ∙ ap (λ (x : Step). ends_are_free c.args.sketch.now c.args.figure.now x.from x.to) c.step.view_is)
