use Rattle.sketch_list.proofs.Refuting.{listed-enough}
use Rattle.sketch_list.proofs.laws.listed_steps_are_enough.Goals as goal

pub returns : goal.returns
returns c = listed-enough
