use Rattle.static_rules.proofs.Larger.{best-gains}
use Rattle.static_rules.proofs.closing_laws.best_potentials_support.Goals as goal

pub returns : goal.returns
returns c = best-gains
