use Rattle.std.proofs.Common.{ap, sym, ◌∙◌}
use Rattle.figures.specs.Figures.{figure_at}
use Rattle.figures.specs.Steps.{Step}
use Rattle.sketch_steps.proofs.Telling.{step-by, step-none}
use Rattle.sketch_steps.proofs.stepping.is_step.Goals as goal

pub returns-in-Some : goal.returns-in-Some
returns-in-Some c = step-by c.args.exact.now c.args.sketch.now c.args.step.now c.in-Some.figure c.is_made.result c.is_gone.result (ap (λ (x : Step). figure_at c.args.sketch.now x.by) (sym c.step.view_is) ∙ sym c.get.ensures ∙ c.in-Some.is) c.is_made.ensures c.is_gone.ensures

pub returns-in-None : goal.returns-in-None
returns-in-None c = step-none c.args.exact.now c.args.sketch.now c.args.step.now (ap (λ (x : Step). figure_at c.args.sketch.now x.by) (sym c.step.view_is) ∙ sym c.get.ensures ∙ c.in-None.is)
