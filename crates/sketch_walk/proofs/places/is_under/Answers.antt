use Rattle.std.proofs.Common.{ℕ, Bool, ◌&&◌, ap, sym, ◌∙◌}
use Rattle.std.proofs.lemmas.Bool.{and_left}
use Rattle.std.specs.Prelude.{nat_lt}
use Rattle.board_base.specs.Board.{file}
use Rattle.figures.specs.Figures.{Figure}
use Rattle.sketch_list.specs.Listed.{count_from, is_on_file, is_under}
use Rattle.sketch_walk.proofs.places.is_under.Goals as goal

pub returns-then-not-is_on_file : goal.returns-then-not-is_on_file
unfolding is_under
returns-then-not-is_on_file c = sym (and_left (is_on_file (file c.args.s) c.args.figure.now) _ (sym c.is_on_file.ensures ∙ c.if-not-is_on_file.true))

pub returns : goal.returns
unfolding is_under
returns c =
    ap (λ (n : ℕ). nat_lt n c.count_from.result) c.from.ensures ∙ ap (nat_lt c.args.above) c.count_from.ensures
    ∙ ap (λ (f : Figure). nat_lt c.args.above (count_from c.args.sketch.now (file c.args.s) f.place)) c.figure.view_is
    ∙ sym (ap (λ (b : Bool). b && nat_lt c.args.above (count_from c.args.sketch.now (file c.args.s) c.args.figure.now.place)) (sym c.is_on_file.ensures ∙ c.if-not-is_on_file.false))
