use Rattle.std.proofs.Common.{ap, sym, ◌∙◌}
use Rattle.board_base.specs.Board.{file, is_in}
use Rattle.figures.specs.Figures.{Figure}
use Rattle.sketch_list.specs.Listed.{Listed}
use Rattle.sketch_walk.specs.Goings.{goes_as}
use Rattle.sketch_walk.proofs.Going.{may-exact, may-marked, may-other}
use Rattle.sketch_walk.proofs.goings.may_go.Goals as goal

pub returns-then-exact-file : goal.returns-then-exact-file
returns-then-exact-file c = may-exact c.args.exact.now c.args.figure.now c.args.step.now (ap (λ (y : Listed). is_in c.args.exact.now (file y.from)) (sym c.step.view_is) ∙ ap (is_in c.args.exact.now) (sym c.file.ensures) ∙ c.if-exact-file.true)

pub returns-then-figure : goal.returns-then-figure
returns-then-figure c = may-marked c.args.exact.now c.args.figure.now c.args.step.now (ap (λ (y : Listed). is_in c.args.exact.now (file y.from)) (sym c.step.view_is) ∙ ap (is_in c.args.exact.now) (sym c.file.ensures) ∙ c.if-exact-file.false) (ap (λ (f : Figure). f.marked) (sym c.figure.view_is) ∙ c.if-figure.true)

pub returns : goal.returns
returns c =
    c.goes_as.ensures
    ∙ ap (λ (f : Figure). goes_as f.colour c.step.inside.from c.step.inside.to c.step.inside.victim) c.figure.view_is
    ∙ ap (λ (y : Listed). goes_as c.args.figure.now.colour y.from y.to y.victim) c.step.view_is
    ∙ may-other c.args.exact.now c.args.figure.now c.args.step.now (ap (λ (y : Listed). is_in c.args.exact.now (file y.from)) (sym c.step.view_is) ∙ ap (is_in c.args.exact.now) (sym c.file.ensures) ∙ c.if-exact-file.false) (ap (λ (f : Figure). f.marked) (sym c.figure.view_is) ∙ c.if-figure.false)
