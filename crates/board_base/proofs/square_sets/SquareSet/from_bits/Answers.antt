use Rattle.board_base.specs.SquareNumbers.{number_of-squares_of}
use Rattle.board_base.proofs.square_sets.SquareSet.from_bits.Goals as goal

pub returns-clause-number : goal.returns-clause-number
returns-clause-number c = number_of-squares_of c.args.bits c.ranges.bits.fits
