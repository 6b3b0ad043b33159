use Rattle.std.proofs.Common.{◌≡◌, ◌∙◌, ap}
use Rattle.board_base.specs.Squares.{number_of}
use Rattle.figures.specs.SetSteps.{both, outside}
use Rattle.sketch_sets.proofs.Sets.{within-none}
use Rattle.sketch_sets.proofs.masks.is_within.Goals as goal

pub returns : goal.returns
unfolding both outside
returns c =
    let made : c.both.result ≡ both c.args.a (outside c.args.b) = c.both.ensures ∙ ap (both c.args.a) c.outside.ensures in
    within-none c.args.a c.args.b c.bits.result (c.bits.ensures.number ∙ ap number_of made) (c.bits.ensures.squares ∙ made)
