use Rattle.std.proofs.Common.{◌≡◌, ◌<◌, true, set, ◌∙◌, arith}
use Rattle.board_base.specs.Squares.{squares_of}
use Rattle.cage_rules.specs.Steps.{is_step, near}
use Rattle.sketch_grounds.proofs.Entering.{steps-made}
use Rattle.sketch_grounds.proofs.entries.steps_to.Goals as goal

pub returns : goal.returns
returns c =
    let inside : c.args.s < 64 = omega arith in
    let made : c.piece_steps.result ≡ near (is_step c.args.kind) (set (squares_of 0) c.args.s true) = cc in
    made ∙ steps-made c.args.kind c.args.s inside
