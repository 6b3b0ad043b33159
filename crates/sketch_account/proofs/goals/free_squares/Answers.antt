use Rattle.std.proofs.Common.{◌≡◌, ◌∙◌, ◌&&◌, Bool, List, ap}
use Rattle.board_base.specs.Board.{is_in}
use Rattle.figures.specs.Figures.{Figure}
use Rattle.sketch_account.proofs.Algebra.{in-both, in-outside}
use Rattle.sketch_account.proofs.goals.free_squares.Goals as goal

pub returns : goal.returns
returns c = λ s inside.
    let squares : c.figure.inside.squares ≡ c.args.figure.now.squares = ap (λ (x : Figure). x.squares) c.figure.view_is in
    in-both c.figure.inside.squares c.outside.result c.both.result s c.both.ensures inside
    ∙ ap (λ (l : List Bool). is_in l s && is_in c.outside.result s) squares
    ∙ ap (λ (b : Bool). is_in c.args.figure.now.squares s && b) (in-outside c.args.wall c.outside.result s c.outside.ensures inside)
