use Rattle.std.proofs.Common.{◌≡◌, ◌∙◌}
use Rattle.cage_rules.specs.Sets.{union}
use Rattle.cage_rules.specs.SetSteps.{both, outside}
use Rattle.cage_rules.specs.Tests.{loose}
use Rattle.cage_rules.proofs.Loose.{kept-made}
use Rattle.cage_rules.proofs.ways.kept.Goals as goal

pub returns : goal.returns
returns c =
    let made : c.both-2.result ≡ both (both c.args.set c.args.ways.now.occupied) (union c.args.ways.now.held (outside (loose c.args.ways.now c.args.set))) = cc in
    made ∙ kept-made c.args.ways.now c.args.set
