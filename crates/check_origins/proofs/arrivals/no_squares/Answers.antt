use Rattle.std.proofs.Common.{◌==◌, ℕ, length, ap, ◌∙◌}
use Rattle.std.proofs.lemmas.Nat.Bits.{bit_at-zero}
use Rattle.std.specs.Prelude.{List, Bool}
use Rattle.board_base.specs.Board.{is_in}
use Rattle.board_base.specs.SquareNumbers.{is_in-squares_of, length-squares_of}
use Rattle.check_origins.proofs.arrivals.no_squares.Goals as goal

pub returns : goal.returns
returns c = record {
  size = ap length c.from_bits.ensures.squares ∙ length-squares_of 0;
  none = λ t small. ap (λ (l : List Bool). is_in l t) c.from_bits.ensures.squares ∙ is_in-squares_of 0 t small ∙ ap (λ (n : ℕ). n == 1) (bit_at-zero t);
}
