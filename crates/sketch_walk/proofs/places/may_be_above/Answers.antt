use Rattle.std.proofs.Common.{ℕ, not, ◌==◌, ap, sym, ◌∙◌}
use Rattle.std.proofs.lemmas.Bool.{cond-false, cond-true}
use Rattle.std.specs.Prelude.{nat_lt}
use Rattle.board_base.specs.Board.{file}
use Rattle.sketch_list.specs.Listed.{Listed, count_from, is_advance, may_be_above}
use Rattle.sketch_walk.proofs.places.may_be_above.Goals as goal

pub returns-then-is_advance : goal.returns-then-is_advance
unfolding may_be_above
returns-then-is_advance c = ap (λ (y : Listed). y.above == 0) c.step.view_is ∙ sym (cond-true (is_advance c.args.figure.now c.args.step.now) _ _ (sym c.is_advance.ensures ∙ c.if-is_advance.true))

pub returns : goal.returns
unfolding may_be_above
returns c =
    ap (λ (n : ℕ). not (nat_lt n c.from.result)) c.count_from.ensures
    ∙ ap (λ (n : ℕ). not (nat_lt (count_from c.args.sketch.now (file c.step.inside.from) 0) n)) c.from.ensures
    ∙ ap (λ (y : Listed). not (nat_lt (count_from c.args.sketch.now (file y.from) 0) y.above)) c.step.view_is
    ∙ sym (cond-false (is_advance c.args.figure.now c.args.step.now) _ _ (sym c.is_advance.ensures ∙ c.if-is_advance.false))
