use Rattle.sketch_steps.proofs.Before.{low-made}
use Rattle.sketch_steps.proofs.taken.has_low_place.Goals as goal

pub returns : goal.returns
returns c = low-made (record { colour = c.figure.inside.colour; kinds = c.figure.inside.kinds; squares = c.figure.inside.squares; marked = c.figure.inside.marked; place = c.figure.inside.place }) c.args.figure.now c.figure.view_is
