use Rattle.std.proofs.Common.{ap, sym, ◌∙◌}
use Rattle.std.proofs.lemmas.Bool.{cond-false, cond-true}
use Rattle.board_base.specs.Board.{file}
use Rattle.figures.specs.Figures.{Figure}
use Rattle.sketch_list.specs.Listed.{Listed, is_advance, is_under, next_above, place_before}
use Rattle.sketch_walk.proofs.places.place_before.Goals as goal

pub returns-then-is_advance-clause-value : goal.returns-then-is_advance-clause-value
unfolding place_before
returns-then-is_advance-clause-value c = ap (λ (f : Figure). f.place) c.figure.view_is ∙ sym (cond-true (is_advance c.args.figure.now c.args.step.now) _ _ (sym c.is_advance.ensures ∙ c.if-is_advance.true))

pub returns-clause-value : goal.returns-clause-value
unfolding place_before
returns-clause-value c =
    c.next_above.ensures.value ∙ ap (λ (y : Listed). next_above (is_under c.args.sketch.now (file y.from) y.above) c.args.sketch.now) c.step.view_is
    ∙ sym (cond-false (is_advance c.args.figure.now c.args.step.now) _ _ (sym c.is_advance.ensures ∙ c.if-is_advance.false))
