use Rattle.sketch_body.proofs.Readings.{ending, stops}
use Rattle.sketch_body.proofs.laws.each_reading_ends.Goals as goal

pub returns-clause-ends : goal.returns-clause-ends
returns-clause-ends c = ending

pub returns-clause-stops : goal.returns-clause-stops
returns-clause-stops c = stops
