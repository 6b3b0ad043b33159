use Rattle.std.proofs.Common.{◌≡◌, ◌∙◌}
use Rattle.cage_rules.specs.Sets.{union}
use Rattle.cage_rules.specs.Steps.{near}
use Rattle.cage_rules.specs.SetSteps.{is_across, is_along}
use Rattle.cage_rules.proofs.Adjacent.{line-near}
use Rattle.cage_rules.proofs.steps.line_steps.Goals as goal

pub returns : goal.returns
returns c = let made : c.either.result ≡ union (near (is_across 1) c.args.set) (near (is_along 1) c.args.set) = cc in made ∙ line-near c.args.set
