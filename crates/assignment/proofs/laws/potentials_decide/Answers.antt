use Rattle.assignment.proofs.Decided.{decided}
use Rattle.assignment.proofs.laws.potentials_decide.Goals as goal

pub returns : goal.returns
returns c = decided
