use Rattle.std.proofs.Common.{arith}
use Rattle.board_base.specs.SquareNumbers.{number_of-squares_of}
use Rattle.board_base.proofs.square_sets.SquareSetHash.hash.Goals as goal

pub returns : goal.returns
returns g c = grind (arith, c.hash.ensures, number_of-squares_of)
