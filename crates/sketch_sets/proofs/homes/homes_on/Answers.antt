use Rattle.std.proofs.Common.{◌&&◌, List, Bool, ap, ◌∙◌, rules}
use Rattle.board_base.specs.Board.{is_in}
use Rattle.figures.specs.Sets.{squares_that}
use Rattle.sketch_sets.specs.Homes.{has_like, homes_on}
use Rattle.sketch_sets.specs.Remade.{set_of}
use Rattle.sketch_sets.proofs.homes.homes_on.Goals as goal

pub returns : goal.returns
unfolding homes_on
returns c = c.those_that.ensures (has_like c.args.first.now c.args.figure) (λ s b low member post. search rules) ∙ ap (λ (l : List Bool). squares_that (λ s. is_in l s && has_like c.args.first.now c.args.figure s)) (ap set_of c.figure.view_is)
