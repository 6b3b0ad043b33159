use Rattle.std.proofs.Common.{◌≡◌, ◌∙◌}
use Rattle.cage_rules.specs.Sets.{union}
use Rattle.cage_rules.specs.Steps.{is_step, near}
use Rattle.cage_rules.specs.SetSteps.{both, outside}
use Rattle.sketch_grounds.proofs.rooms.spread.Goals as goal
use Rattle.cage_rules.proofs.Spread.{spread-made}

pub returns : goal.returns
returns c =
    let made : c.either.result ≡ union c.args.within (both (near (is_step c.args.kind) c.args.within) (outside c.args.wall)) = cc in
    made ∙ spread-made c.args.kind c.args.wall c.args.within
