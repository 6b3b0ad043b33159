use Rattle.retraction_bars.proofs.Rest.{untold}
use Rattle.retraction_bars.proofs.laws.ways_are_told.Goals as goal

pub returns : goal.returns
returns c = untold
