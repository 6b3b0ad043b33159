use Rattle.std.proofs.Common.{Bool, ◌&&◌, ap, sym, ◌∙◌}
use Rattle.std.proofs.lemmas.Bool.{and_left}
use Rattle.board_base.specs.Board.{is_in}
use Rattle.figures.specs.Figures.{Figure}
use Rattle.sketch_steps.specs.Arrivals.{arrives_on}
use Rattle.sketch_walk.specs.Walks.{may_come}
use Rattle.sketch_walk.proofs.ways.may_come.Goals as goal

pub returns-then-not-has : goal.returns-then-not-has
unfolding may_come
returns-then-not-has c = sym (and_left (is_in c.args.figure.now.squares c.args.t) _ (ap (λ (f : Figure). is_in f.squares c.args.t) (sym c.figure.view_is) ∙ sym c.has.ensures.member ∙ c.if-not-has.true))

pub returns : goal.returns
unfolding may_come
returns c = c.arrives.ensures ∙ sym (ap (λ (b : Bool). b && arrives_on c.args.figure.now c.args.t) (ap (λ (f : Figure). is_in f.squares c.args.t) (sym c.figure.view_is) ∙ sym c.has.ensures.member ∙ c.if-not-has.false))
