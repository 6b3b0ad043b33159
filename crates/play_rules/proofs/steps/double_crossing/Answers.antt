use Rattle.std.proofs.Common.{◌≡◌, ap, sym, ◌∙◌, arith}
use Rattle.board_base.specs.Board.{rank}
use Rattle.board_base.specs.Legal.{pawn_rank}
use Rattle.play_rules.proofs.Doubles.{double-parts}
use Rattle.play_rules.proofs.steps.double_crossing.Goals as goal

pub known-requires : goal.known-requires
known-requires c =
    let double = double-parts c.args.board.now c.args.colour c.args.m.now (sym c.pawn_doubles.ensures ∙ c.if-pawn_doubles.true) in
    let home : rank c.args.m.now.from ≡ 1 = double.home ∙ ap pawn_rank c.in-White.is in
    omega (arith, home, c.index-from.ensures.number)

pub overflow_sub-from : goal.overflow_sub-from
overflow_sub-from c =
    let double = double-parts c.args.board.now c.args.colour c.args.m.now (sym c.pawn_doubles.ensures ∙ c.if-pawn_doubles.true) in
    let home : rank c.args.m.now.from ≡ 6 = double.home ∙ ap pawn_rank c.in-Black.is in
    omega (arith, home, c.index-from.ensures.number)
