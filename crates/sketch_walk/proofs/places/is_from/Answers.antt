use Rattle.std.proofs.Common.{Bool, ◌&&◌, not, ap, ◌∙◌}
use Rattle.std.specs.Prelude.{nat_lt}
use Rattle.board_base.specs.Board.{file}
use Rattle.figures.specs.Figures.{Figure}
use Rattle.sketch_list.specs.Listed.{is_from, is_on_file}
use Rattle.sketch_walk.proofs.places.is_from.Goals as goal

pub returns : goal.returns
unfolding is_from
returns c =
    ap (λ (b : Bool). b && not (nat_lt c.figure.inside.place c.args.place)) c.is_on_file-on.ensures
    ∙ ap (λ (f : Figure). is_on_file (file c.args.s) c.args.figure.now && not (nat_lt f.place c.args.place)) c.figure.view_is
