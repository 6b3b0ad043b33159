use Rattle.std.proofs.Common.{ap}
use Rattle.figures.specs.Steps.{Step}
use Rattle.sketch_steps.proofs.Before.{fits-made}
use Rattle.sketch_steps.proofs.taken.fits.Goals as goal

pub returns : goal.returns
returns c = fits-made c.args.sketch.now c.args.mover.now c.args.step.now c.len.result c.taken_count.result c.step.inside.place c.has_home.result c.has_low_places-low.result c.len.ensures.value (c.taken_count.ensures.value c.args.mover.now) (ap (λ (x : Step). x.place) c.step.view_is) c.has_home.ensures c.has_low_places-low.ensures
