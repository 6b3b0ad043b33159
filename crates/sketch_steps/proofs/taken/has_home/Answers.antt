use Rattle.std.proofs.Common.{ap, ◌∙◌}
use Rattle.board_base.specs.Play.{ahead}
use Rattle.figures.specs.Figures.{Figure}
use Rattle.figures.specs.Steps.{Step}
use Rattle.sketch_steps.proofs.Before.{home-made}
use Rattle.sketch_steps.proofs.taken.has_home.Goals as goal

pub returns : goal.returns
returns c = home-made c.args.mover.now c.args.step.now c.step.inside.passing c.ahead.result (ap (λ (x : Step). x.passing) c.step.view_is) (c.ahead.ensures ∙ ap (λ (x : Step). ahead c.mover.inside.colour x.to) c.step.view_is ∙ ap (λ (f : Figure). ahead f.colour c.args.step.now.to) c.mover.view_is)
