use Rattle.std.proofs.Common.{ap, ◌∙◌}
use Rattle.board_base.specs.Attacks.{one_ahead}
use Rattle.figures.specs.Figures.{Figure}
use Rattle.figures.specs.Steps.{Step}
use Rattle.sketch_steps.specs.Arrivals.{arrives_on}
use Rattle.sketch_steps.specs.Stepping.{captures_by}
use Rattle.sketch_steps.proofs.Telling.{way-none, way-squares}
use Rattle.sketch_steps.proofs.stepping.is_way.Goals as goal

pub returns-then-not-may : goal.returns-then-not-may
returns-then-not-may c = way-none c.args.sketch.now c.args.figure.now c.args.step.now c.figure.inside.marked c.is_ahead-ahead.result c.arrives-there.result c.captures-2.result
    (ap (λ (f : Figure). f.marked) c.figure.view_is)
    (c.is_ahead-ahead.ensures ∙ ap (λ (x : Step). one_ahead c.figure.inside.colour x.from x.to) c.step.view_is ∙ ap (λ (f : Figure). one_ahead f.colour c.args.step.now.from c.args.step.now.to) c.figure.view_is)
    (c.arrives-there.ensures ∙ ap (λ (x : Step). arrives_on c.args.figure.now x.to) c.step.view_is)
    (c.captures-2.ensures ∙ ap (λ (f : Figure). captures_by f.colour c.args.step.now) c.figure.view_is) c.if-not-may.true

pub returns : goal.returns
returns c = way-squares c.args.sketch.now c.args.figure.now c.args.step.now c.figure.inside.marked c.squares_are_free.result c.is_ahead-ahead.result c.arrives-there.result c.captures-2.result
    (ap (λ (f : Figure). f.marked) c.figure.view_is)
    c.squares_are_free.ensures
    (c.is_ahead-ahead.ensures ∙ ap (λ (x : Step). one_ahead c.figure.inside.colour x.from x.to) c.step.view_is ∙ ap (λ (f : Figure). one_ahead f.colour c.args.step.now.from c.args.step.now.to) c.figure.view_is)
    (c.arrives-there.ensures ∙ ap (λ (x : Step). arrives_on c.args.figure.now x.to) c.step.view_is)
    (c.captures-2.ensures ∙ ap (λ (f : Figure). captures_by f.colour c.args.step.now) c.figure.view_is) c.if-not-may.false
