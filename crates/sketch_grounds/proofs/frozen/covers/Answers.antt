use Rattle.std.proofs.Common.{◌≡◌, arith}
use Rattle.cage_rules.specs.SetSteps.{both, outside}
use Rattle.sketch_grounds.proofs.Freezing.{covers-made}
use Rattle.sketch_grounds.proofs.frozen.covers.Goals as goal

pub returns : goal.returns
returns c =
    let made : c.both.result ≡ both c.args.squares (outside c.args.set) = cc in
    covers-made c.args.set c.args.squares c.both.result c.next_from.result made c.next_from.ensures.low (λ s low. c.next_from.ensures.none s (omega arith) low) c.next_from.ensures.found
