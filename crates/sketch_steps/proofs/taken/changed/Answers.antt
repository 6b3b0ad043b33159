use Rattle.std.proofs.Common.{ap, sym, ◌∙◌}
use Rattle.std.proofs.lemmas.Bool.{eq-eqb, ne_eqb}
use Rattle.figures.specs.Steps.{Step}
use Rattle.sketch_steps.proofs.Before.{changed-here, changed-other}
use Rattle.sketch_steps.proofs.taken.changed.Goals as goal

pub returns-then-i-step : goal.returns-then-i-step
returns-then-i-step c = c.pawn_before.ensures ∙ changed-here c.args.kept c.args.step.now c.args.i c.args.figure.now (eq-eqb c.args.i c.args.step.now.by (c.if-i-step.true ∙ ap (λ (x : Step). x.by) c.step.view_is))

pub returns : goal.returns
returns c = c.bystander.ensures ∙ changed-other c.args.kept c.args.step.now c.args.i c.args.figure.now (ne_eqb c.args.i c.args.step.now.by (λ same. c.if-i-step.false (same ∙ sym (ap (λ (x : Step). x.by) c.step.view_is))))
