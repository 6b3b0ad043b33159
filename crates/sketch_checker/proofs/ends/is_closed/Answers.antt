use Rattle.std.proofs.Common.{false, refl}
use Rattle.std.proofs.lemmas.Bool.{both_ways}
use Rattle.sketch_proof.specs.Basis.{IsClosedAt}
use Rattle.sketch_checker.proofs.Below.{no-line}
use Rattle.sketch_checker.proofs.ends.is_closed.Goals as goal

pub returns-in-None : goal.returns-in-None
returns-in-None c = (
  λ bad. absurd (both_ways false refl bad),
  λ it. absurd (no-line c.args.setting.now c.args.number (λ p. IsClosedAt c.args.setting.now.odds c.args.setting.now.held c.args.sketch.now p) c.in-None.ensures it),
)
