use Rattle.std.proofs.Common.{ap}
use Rattle.figures.specs.Figures.{Figure}
use Rattle.sketch_steps.proofs.Rearranging.{lower-made}
use Rattle.sketch_steps.proofs.places.is_lower.Goals as goal

pub returns : goal.returns
returns c = lower-made c.args.figure.now c.args.other.now c.may_be.result c.other.inside.place c.figure.inside.place c.may_be.ensures (ap (λ (f : Figure). f.place) c.other.view_is) (ap (λ (f : Figure). f.place) c.figure.view_is)
