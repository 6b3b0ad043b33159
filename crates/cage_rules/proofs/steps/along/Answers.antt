use Rattle.std.proofs.Common.{◌≡◌, ◌∙◌}
use Rattle.cage_rules.specs.Sets.{union}
use Rattle.cage_rules.specs.SetSteps.{down, up}
use Rattle.cage_rules.proofs.Adjacent.{along-near}
use Rattle.cage_rules.proofs.steps.along.Goals as goal

pub returns : goal.returns
returns c = let made : c.either.result ≡ union (up c.args.set c.args.ranks) (down c.args.set c.args.ranks) = cc in made ∙ along-near c.args.set c.args.ranks
