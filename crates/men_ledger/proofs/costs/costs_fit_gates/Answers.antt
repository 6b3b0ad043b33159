use Rattle.men_ledger.proofs.Closing.{costs-fit}
use Rattle.men_ledger.proofs.costs.costs_fit_gates.Goals as goal

pub returns : goal.returns
returns c = costs-fit
