use Rattle.std.proofs.Common.{◌≡◌, ◌∙◌}
use Rattle.cage_rules.specs.Sets.{union}
use Rattle.cage_rules.specs.SetSteps.{left, right}
use Rattle.cage_rules.proofs.Adjacent.{across-near}
use Rattle.cage_rules.proofs.steps.across.Goals as goal

pub returns : goal.returns
returns c = let made : c.either.result ≡ union (right c.args.set c.args.files) (left c.args.set c.args.files) = cc in made ∙ across-near c.args.set c.args.files c.requires.few
