use Rattle.std.proofs.Common.{◌≡◌, ◌<◌, true, set, ◌∙◌, arith}
use Rattle.board_base.specs.Board.{opponent}
use Rattle.board_base.specs.Squares.{squares_of}
use Rattle.cage_rules.specs.Frozen.{is_behind}
use Rattle.cage_rules.specs.Steps.{near}
use Rattle.sketch_grounds.proofs.Entering.{behind-made}
use Rattle.sketch_grounds.proofs.entries.behind.Goals as goal

pub returns : goal.returns
returns c =
    let inside : c.args.s < 64 = omega arith in
    let made : c.pawn_steps.result ≡ near (is_behind (opponent c.args.colour)) (set (squares_of 0) c.args.s true) = cc in
    made ∙ behind-made c.args.colour c.args.s inside
