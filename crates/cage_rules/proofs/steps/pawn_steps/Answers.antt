use Rattle.std.proofs.Common.{◌≡◌, ◌∙◌}
use Rattle.cage_rules.specs.Sets.{union}
use Rattle.cage_rules.specs.Steps.{is_ahead, near}
use Rattle.cage_rules.specs.SetSteps.{is_across}
use Rattle.cage_rules.proofs.Adjacent.{behind-near}
use Rattle.cage_rules.proofs.steps.pawn_steps.Goals as goal

pub returns : goal.returns
returns c = let made : c.ahead.result ≡ near (is_ahead c.args.colour) (union c.args.set (near (is_across 1) c.args.set)) = cc in made ∙ behind-near c.args.colour c.args.set
