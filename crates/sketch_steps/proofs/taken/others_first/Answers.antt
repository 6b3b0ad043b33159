use Rattle.std.proofs.Common.{◌≡◌, ◌++◌, length, append-nil, ap, sym, ◌∙◌, arith}
use Rattle.figures.specs.Figures.{Figure, Sketch}
use Rattle.figures.specs.Steps.{changed_by, victims}
use Rattle.sketch_steps.proofs.Before.{each-length, fits-few, fits-home, fits-low, fits-place, others-made}
use Rattle.sketch_steps.proofs.taken.others_first.Goals as goal

pub each_before-before-requires-clause-step : goal.each_before-before-requires-clause-step
each_before-before-requires-clause-step c = fits-place c.args.sketch.now c.args.mover.now c.args.step.now c.requires.fits

pub each_before-before-requires-clause-figures : goal.each_before-before-requires-clause-figures
each_before-before-requires-clause-figures c = fits-low c.args.sketch.now c.args.mover.now c.args.step.now c.requires.fits

pub victim-requires-clause-home : goal.victim-requires-clause-home
victim-requires-clause-home c = fits-home c.args.sketch.now c.args.mover.now c.args.step.now c.requires.fits

pub push-requires : goal.push-requires
push-requires c =
    let few = fits-few c.args.sketch.now c.args.mover.now c.args.step.now c.requires.fits in
    let one : 1 ≡ length (victims c.args.mover.now c.args.step.now) = ap length c.in-Some.ensures in
    let size : length c.each_before-before.result ≡ length c.args.sketch.now = ap length c.each_before-before.ensures ∙ each-length (changed_by c.mover.inside.colour c.args.step.now) 0 c.args.sketch.now in
    omega (arith, few, one, size)

pub returns-in-Some : goal.returns-in-Some
returns-in-Some c =
    c.push.ensures ∙ ap (λ (l : Sketch). c.each_before-before.result ++ l) c.in-Some.ensures
    ∙ others-made c.args.sketch.now c.args.step.now c.args.mover.now c.mover.inside.colour c.each_before-before.result (ap (λ (f : Figure). f.colour) c.mover.view_is) c.each_before-before.ensures

pub returns-in_default : goal.returns-in_default
returns-in_default c =
    sym (append-nil c.each_before-before.result) ∙ ap (λ (l : Sketch). c.each_before-before.result ++ l) c.in_default.ensures
    ∙ others-made c.args.sketch.now c.args.step.now c.args.mover.now c.mover.inside.colour c.each_before-before.result (ap (λ (f : Figure). f.colour) c.mover.view_is) c.each_before-before.ensures
