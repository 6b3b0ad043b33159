use Rattle.std.proofs.Common.{◌≡◌, ◌∙◌}
use Rattle.cage_rules.specs.Steps.{is_ahead, near}
use Rattle.cage_rules.specs.SetSteps.{is_across}
use Rattle.cage_rules.proofs.Adjacent.{strike-near}
use Rattle.cage_rules.proofs.steps.pawn_strikes.Goals as goal

pub returns : goal.returns
returns c = let made : c.ahead.result ≡ near (is_ahead c.args.colour) (near (is_across 1) c.args.set) = cc in made ∙ strike-near c.args.colour c.args.set
