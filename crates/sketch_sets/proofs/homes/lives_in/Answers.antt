use Rattle.std.proofs.Common.{List, Bool, ap, ◌∙◌}
use Rattle.sketch_sets.specs.Homes.{is_inside}
use Rattle.sketch_sets.specs.Lodging.{lives_in}
use Rattle.sketch_sets.specs.Remade.{set_of}
use Rattle.sketch_sets.proofs.homes.lives_in.Goals as goal

pub returns : goal.returns
unfolding lives_in
returns c = c.is_within.ensures ∙ ap (λ (l : List Bool). is_inside l c.figure.inside.squares) (ap set_of c.other.view_is) ∙ ap (is_inside c.args.other.now.squares) (ap set_of c.figure.view_is)
