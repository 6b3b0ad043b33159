use Rattle.std.proofs.Common.{ℕ, ap, ◌∙◌}
use Rattle.std.specs.Prelude.{count_by, nat_lt}
use Rattle.board_base.specs.Board.{same_colour}
use Rattle.sketch_list.specs.Listed.{is_short}
use Rattle.sketch_walk.proofs.shorts.is_short.Goals as goal

pub returns : goal.returns
unfolding is_short
returns c = ap (λ (n : ℕ). nat_lt n c.men_begun.result) c.figures_of.ensures ∙ ap (nat_lt (count_by (λ f. same_colour c.args.colour f.colour) c.args.sketch.now)) c.men_begun.ensures
