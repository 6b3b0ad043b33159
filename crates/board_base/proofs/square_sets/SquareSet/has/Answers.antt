use Rattle.std.proofs.Common.{◌==◌, ap, sym, ◌∙◌, ℕ, Bool, List, length}
use Rattle.std.proofs.lemmas.Nat.Bits.{shr_and_one}
use Rattle.board_base.specs.Board.{is_in}
use Rattle.board_base.specs.SquareNumbers.{length-squares_of, is_in-squares_of}
use Rattle.board_base.proofs.square_sets.SquareSet.has.Goals as goal

pub returns-clause-member : goal.returns-clause-member
returns-clause-member c =
    ap (λ (n : ℕ). n == 1) (shr_and_one c.self.inside.bits c.index.result)
    ∙ sym (is_in-squares_of c.self.inside.bits c.index.result c.index.ensures.on_board)
    ∙ ap (is_in _) c.index.ensures.number
    ∙ ap (λ (set : List Bool). is_in set c.args.s) c.self.view_is

pub returns-clause-size : goal.returns-clause-size
returns-clause-size c = ap (λ (set : List Bool). length set) (sym c.self.view_is) ∙ length-squares_of c.self.inside.bits
