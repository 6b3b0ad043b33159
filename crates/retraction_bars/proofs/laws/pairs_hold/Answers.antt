use Rattle.retraction_bars.proofs.Unexplained.{unexplained}
use Rattle.retraction_bars.proofs.laws.pairs_hold.Goals as goal

pub returns : goal.returns
returns c = unexplained
