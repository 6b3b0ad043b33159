use Rattle.retraction_bars.proofs.Truth.{truth}
use Rattle.retraction_bars.proofs.laws.bars_hold.Goals as goal

pub returns : goal.returns
returns c = truth
