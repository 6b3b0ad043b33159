use Rattle.std.proofs.Common.{◌≡◌, ◌∙◌}
use Rattle.board_base.specs.Board.{opponent}
use Rattle.board_base.specs.Squares.{squares_of}
use Rattle.board_base.specs.declared.men.Kind.TheVariants.{Pawn}
use Rattle.cage_rules.specs.Sets.{union}
use Rattle.cage_rules.specs.Steps.{near}
use Rattle.cage_rules.specs.SetSteps.{both, is_strike, outside}
use Rattle.cage_rules.proofs.Struck.{exposed-made}
use Rattle.cage_rules.proofs.roaming.exposed.Goals as goal

pub returns : goal.returns
returns c =
    let made : c.both.result ≡ both (outside c.args.frozen) (near (is_strike (opponent c.args.colour)) (outside (union (squares_of 18374686479671623935) c.args.frozen))) = cc in
    made ∙ exposed-made c.args.frozen (record { colour = c.args.colour; kind = Pawn })
