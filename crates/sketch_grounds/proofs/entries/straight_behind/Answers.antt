use Rattle.std.proofs.Common.{◌≡◌, ◌<◌, true, set, ◌∙◌, arith}
use Rattle.board_base.specs.Board.{opponent}
use Rattle.board_base.specs.Squares.{squares_of}
use Rattle.cage_rules.specs.Steps.{is_ahead, near}
use Rattle.sketch_grounds.proofs.Entering.{straight-made}
use Rattle.sketch_grounds.proofs.entries.straight_behind.Goals as goal

pub returns : goal.returns
returns c =
    let inside : c.args.s < 64 = omega arith in
    let made : c.ahead.result ≡ near (is_ahead (opponent c.args.colour)) (set (squares_of 0) c.args.s true) = cc in
    made ∙ straight-made c.args.colour c.args.s inside
