use Rattle.std.proofs.Common.{◌≡◌, ◌∙◌}
use Rattle.board_base.specs.Board.{opponent}
use Rattle.board_base.specs.Squares.{squares_of}
use Rattle.cage_rules.specs.Regions.{region}
use Rattle.cage_rules.specs.Sets.{union}
use Rattle.cage_rules.specs.Steps.{near}
use Rattle.cage_rules.specs.SetSteps.{are_apart, is_strike, outside}
use Rattle.cage_rules.proofs.Struck.{shielded-made}
use Rattle.cage_rules.proofs.roaming.is_shielded.Goals as goal

pub returns : goal.returns
returns c =
    let made : c.is_apart.result ≡ are_apart (region c.args.frozen c.args.home) (near (is_strike (opponent c.officer.result.colour)) (outside (union (squares_of 18374686479671623935) c.args.frozen))) = cc in
    made ∙ shielded-made c.args.frozen c.args.home c.officer.result c.officer.ensures
