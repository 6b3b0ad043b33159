use Rattle.past_sketches.proofs.Listed.{listed-step, step-listed}
use Rattle.past_sketches.proofs.laws.steps_are_listed.Goals as goal

pub returns : goal.returns
returns c exact T x = (step-listed exact T x, listed-step exact T x)
