use Rattle.std.proofs.Common.{sym, ap, ◌∙◌}
use Rattle.board_base.specs.Squares.{number_of}
use Rattle.board_base.specs.SquareNumbers.{number_of-squares_of}
use Rattle.board_base.proofs.square_sets.SquareSet.bits.Goals as goal

pub returns-clause-number : goal.returns-clause-number
returns-clause-number c = sym (number_of-squares_of c.self.inside.bits c.self.invariant) ∙ ap number_of c.self.view_is
