use Rattle.std.proofs.Common.{ap, sym, ◌∙◌}
use Rattle.figures.specs.Steps.{Step}
use Rattle.sketch_steps.proofs.Telling.{captures-past, captures-there}
use Rattle.sketch_steps.proofs.stepping.captures.Goals as goal

pub returns-then-step : goal.returns-then-step
returns-then-step c = captures-past c.args.colour c.args.step.now c.passes.result (sym (ap (λ (x : Step). x.passing) c.step.view_is) ∙ c.if-step.true) c.passes.ensures

pub returns : goal.returns
returns c = captures-there c.args.colour c.args.step.now c.takes.result (sym (ap (λ (x : Step). x.passing) c.step.view_is) ∙ c.if-step.false) c.takes.ensures
