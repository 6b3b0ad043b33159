use Rattle.sketch_steps.proofs.Telling.{has-next-made}
use Rattle.sketch_steps.proofs.stepping.has_next.Goals as goal

pub returns : goal.returns
returns c = has-next-made c.args.sketch.now c.args.place c.is_next-next.result c.is_next-next.ensures
