use Rattle.std.proofs.Common.{ap, ◌∙◌}
use Rattle.board_base.specs.Board.{same_colour}
use Rattle.figures.specs.Figures.{Figure}
use Rattle.sketch_sets.proofs.crowds.is_on_side.Goals as goal

pub returns : goal.returns
returns c = c.is_same_colour.ensures ∙ ap (λ (f : Figure). same_colour c.args.colour f.colour) c.figure.view_is
