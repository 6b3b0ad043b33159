use Rattle.std.proofs.Common.{◌≡◌, ◌++◌, length, append-nil, ap, sym, ◌∙◌, arith}
use Rattle.figures.specs.Figures.{Figure, Sketch}
use Rattle.figures.specs.Steps.{changed_by}
use Rattle.sketch_list.specs.Listed.{Listed, victims_as}
use Rattle.sketch_steps.proofs.Before.{each-length}
use Rattle.sketch_walk.proofs.Making.{before-made}
use Rattle.sketch_walk.proofs.before.figures_before.Goals as goal

pub push-requires : goal.push-requires
push-requires c =
    let one : 1 ≡ length (victims_as c.args.figure.now c.args.listed.now.to c.args.listed.now.victim) = ap length c.in-Some.ensures ∙ ap (λ (y : Listed). length (victims_as c.args.figure.now y.to y.victim)) c.listed.view_is in
    let size : length c.each_before-before.result ≡ length c.args.sketch.now = ap length c.each_before-before.ensures ∙ each-length (changed_by c.figure.inside.colour c.args.step.now) 0 c.args.sketch.now in
    omega (arith, one, size, c.requires.room)

pub returns-in-Some : goal.returns-in-Some
returns-in-Some c =
    c.push.ensures ∙ ap (λ (l : Sketch). c.each_before-before.result ++ l) (c.in-Some.ensures ∙ ap (λ (y : Listed). victims_as c.args.figure.now y.to y.victim) c.listed.view_is)
    ∙ before-made c.args.sketch.now c.args.figure.now c.args.listed.now c.args.step.now c.figure.inside.colour c.each_before-before.result c.requires.step (ap (λ (f : Figure). f.colour) c.figure.view_is) c.each_before-before.ensures

pub returns-in_default : goal.returns-in_default
returns-in_default c =
    sym (append-nil c.each_before-before.result) ∙ ap (λ (l : Sketch). c.each_before-before.result ++ l) (c.in_default.ensures ∙ ap (λ (y : Listed). victims_as c.args.figure.now y.to y.victim) c.listed.view_is)
    ∙ before-made c.args.sketch.now c.args.figure.now c.args.listed.now c.args.step.now c.figure.inside.colour c.each_before-before.result c.requires.step (ap (λ (f : Figure). f.colour) c.figure.view_is) c.each_before-before.ensures
