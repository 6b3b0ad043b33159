use Rattle.std.proofs.Common.{◌≡◌, ◌∙◌}
use Rattle.cage_rules.specs.Sets.{union}
use Rattle.cage_rules.specs.Steps.{near}
use Rattle.cage_rules.specs.SetSteps.{is_across, is_along}
use Rattle.cage_rules.proofs.Adjacent.{knight-near}
use Rattle.cage_rules.proofs.steps.knight_steps.Goals as goal

pub returns : goal.returns
returns c = let made : c.either.result ≡ union (near (is_along 2) (near (is_across 1) c.args.set)) (near (is_along 1) (near (is_across 2) c.args.set)) = cc in made ∙ knight-near c.args.set
