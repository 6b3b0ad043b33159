use Rattle.sketch_steps.proofs.Rearranging.{placed-made}
use Rattle.sketch_steps.proofs.places.placed.Goals as goal

pub returns : goal.returns
returns c = placed-made c.args.sketch.now (record { colour = c.figure.inside.colour; kinds = c.figure.inside.kinds; squares = c.figure.inside.squares; marked = c.figure.inside.marked; place = c.figure.inside.place }) c.args.figure.now c.lower_pawns.result c.lower_pawns.ensures.value c.figure.view_is
