use Rattle.figures.specs.SetSteps.{both}
use Rattle.std.proofs.Common.{◌∙◌, ap}
use Rattle.board_base.specs.Squares.{number_of}
use Rattle.sketch_sets.proofs.Sets.{meets-some}
use Rattle.sketch_sets.proofs.masks.meets.Goals as goal

pub returns : goal.returns
unfolding both
returns c = meets-some c.args.a c.args.b c.bits.result (c.bits.ensures.number ∙ ap number_of c.both.ensures) (c.bits.ensures.squares ∙ c.both.ensures)
