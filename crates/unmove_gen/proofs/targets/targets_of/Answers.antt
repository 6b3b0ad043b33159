use Rattle.std.proofs.Common.{length, ap, ◌∙◌, arith}
use Rattle.board_base.specs.SquareNumbers.{length-squares_of}
use Rattle.unmove_gen.proofs.targets.targets_of.Goals as goal

pub loop-i-init : goal.loop-i-init
loop-i-init c = record { size = ap length c.from_bits-targets.ensures.squares ∙ length-squares_of 0; none = λ t low. absurd (omega arith) }
