use Rattle.std.proofs.Common.{◌≡◌, ◌∙◌}
use Rattle.board_base.specs.declared.men.Colour.TheVariants.{White, Black}
use Rattle.cage_rules.specs.Frozen.{is_behind}
use Rattle.cage_rules.specs.Sets.{union}
use Rattle.cage_rules.specs.Steps.{is_diagonal_step, is_knight_step, is_line_step, near}
use Rattle.cage_rules.specs.SetSteps.{both, outside}
use Rattle.cage_rules.proofs.Loose.{loose-made}
use Rattle.cage_rules.proofs.ways.loose.Goals as goal

pub returns : goal.returns
returns c =
    let made : c.either-4.result ≡ union
    (union (union (both c.args.ways.now.lines (near is_line_step (outside c.args.set))) (both c.args.ways.now.diagonals (near is_diagonal_step (outside c.args.set)))) (both c.args.ways.now.knights (near is_knight_step (outside c.args.set))))
    (union (both c.args.ways.now.white_pawns (near (is_behind White) (outside c.args.set))) (both c.args.ways.now.black_pawns (near (is_behind Black) (outside c.args.set)))) = cc in
    made ∙ loose-made c.args.ways.now c.args.set
