use Rattle.std.proofs.Common.{◌==◌, ◌||◌, Bool, List, ap, ◌∙◌}
use Rattle.std.specs.Int.{bit_at}
use Rattle.board_base.specs.Board.{is_in}
use Rattle.board_base.specs.SquareNumbers.{is_in-squares_of}
use Rattle.board_base.proofs.BitSets.{in-bits}
use Rattle.unmove_gen.proofs.Bits.{either-bit}
use Rattle.unmove_gen.proofs.ways.joined.Goals as goal

pub returns : goal.returns
returns c = λ s small.
    ap (λ (l : List Bool). is_in l s) c.from_bits.ensures.squares ∙ is_in-squares_of _ s small ∙ either-bit c.bits.result c.bits-2.result s
    ∙ ap (λ (b : Bool). b || (bit_at c.bits-2.result s == 1)) (in-bits c.args.a c.bits.result s small c.bits.ensures.squares)
    ∙ ap (λ (b : Bool). is_in c.args.a s || b) (in-bits c.args.b c.bits-2.result s small c.bits-2.ensures.squares)
