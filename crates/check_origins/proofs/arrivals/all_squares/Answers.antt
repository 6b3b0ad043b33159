use Rattle.std.proofs.Common.{length, ap, ◌∙◌}
use Rattle.std.specs.Prelude.{List, Bool}
use Rattle.board_base.specs.Board.{is_in}
use Rattle.board_base.specs.SquareNumbers.{is_in-squares_of, length-squares_of}
use Rattle.check_origins.proofs.Found.{bit-one}
use Rattle.check_origins.proofs.arrivals.all_squares.Goals as goal

pub returns : goal.returns
returns c = record {
  size = ap length c.from_bits.ensures.squares ∙ length-squares_of 18446744073709551615;
  all = λ t small. ap (λ (l : List Bool). is_in l t) c.from_bits.ensures.squares ∙ is_in-squares_of 18446744073709551615 t small ∙ bit-one t small;
}
