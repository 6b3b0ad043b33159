use Rattle.std.proofs.Common.{ℕ, false, Bool, List, ap, ◌∙◌}
use Rattle.std.specs.Prelude.{slice_set}
use Rattle.board_base.specs.Squares.{squares_of}
use Rattle.board_base.proofs.BitSets.{squares_of-clear}
use Rattle.board_base.proofs.square_sets.SquareSet.without.Goals as goal

pub returns : goal.returns
returns c =
    squares_of-clear c.self.inside.bits c.index.result c.index.ensures.on_board
    ∙ ap (λ (s : ℕ). slice_set (squares_of c.self.inside.bits) s false) c.index.ensures.number
    ∙ ap (λ (set : List Bool). slice_set set c.args.s false) c.self.view_is
