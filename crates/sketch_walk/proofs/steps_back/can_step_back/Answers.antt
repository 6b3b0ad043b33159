use Rattle.sketch_walk.proofs.Fitting.{back-told}
use Rattle.sketch_walk.proofs.steps_back.can_step_back.Goals as goal

pub returns : goal.returns
returns c = back-told c.args.odds c.args.sketch.now c.shorts_of.result c.has_low_places-low.result c.has_room.result c.shorts_of.ensures c.has_low_places-low.ensures c.has_room.ensures
