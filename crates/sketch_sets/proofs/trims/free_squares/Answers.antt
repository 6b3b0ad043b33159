use Rattle.std.proofs.Common.{List, Bool, ◌&&◌, not, ap, ◌∙◌}
use Rattle.board_base.specs.Board.{is_in}
use Rattle.figures.specs.Sets.{squares_that}
use Rattle.sketch_sets.specs.Remade.{set_of}
use Rattle.sketch_sets.proofs.Keeping.{free-fixed, free-loose}
use Rattle.sketch_sets.proofs.trims.free_squares.Goals as goal

pub returns-in-Some : goal.returns-in-Some
returns-in-Some c = ap set_of c.figure.view_is ∙ free-fixed c.args.fixed c.args.figure.now _ c.fixed_square.ensures.size c.in-Some.ensures.square

pub returns-in-None : goal.returns-in-None
returns-in-None c =
    c.both.ensures
    ∙ ap (λ (l : List Bool). squares_that (λ s. is_in c.figure.inside.squares s && is_in l s)) c.outside.ensures
    ∙ ap (λ (l : List Bool). squares_that (λ s. is_in l s && is_in (squares_that (λ t. not (is_in c.args.fixed t))) s)) (ap set_of c.figure.view_is)
    ∙ free-loose c.args.fixed c.args.figure.now c.in-None.ensures.square
