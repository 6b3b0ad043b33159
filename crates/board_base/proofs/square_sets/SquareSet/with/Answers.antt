use Rattle.std.proofs.Common.{◌%◌, ◌*◌, ◌^◌, true, ap, ◌∙◌, arith, ℕ, Bool, List}
use Rattle.std.specs.Prelude.{slice_set}
use Rattle.std.proofs.lemmas.Nat.{or_lt}
use Rattle.board_base.specs.Squares.{squares_of}
use Rattle.board_base.proofs.BitSets.{squares_of-or}
use Rattle.board_base.proofs.square_sets.SquareSet.with.Goals as goal

pub invariant_of-result : goal.invariant_of-result
invariant_of-result c = or_lt 64 c.self.inside.bits (1 * 2 ^ c.index.result % 2 ^ 64) c.self.invariant (omega arith)

pub returns : goal.returns
returns c =
    squares_of-or c.self.inside.bits c.index.result c.index.ensures.on_board
    ∙ ap (λ (s : ℕ). slice_set (squares_of c.self.inside.bits) s true) c.index.ensures.number
    ∙ ap (λ (set : List Bool). slice_set set c.args.s true) c.self.view_is
