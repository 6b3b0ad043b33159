use Rattle.std.proofs.Common.{◌≡◌, ◌∙◌}
use Rattle.cage_rules.specs.Steps.{near}
use Rattle.cage_rules.specs.SetSteps.{is_across, is_along}
use Rattle.cage_rules.proofs.Adjacent.{diagonal-near}
use Rattle.cage_rules.proofs.steps.diagonal_steps.Goals as goal

pub returns : goal.returns
returns c = let made : c.along.result ≡ near (is_along 1) (near (is_across 1) c.args.set) = cc in made ∙ diagonal-near c.args.set
