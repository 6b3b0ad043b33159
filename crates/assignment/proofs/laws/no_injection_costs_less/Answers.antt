use Rattle.assignment.proofs.Duality.{weak_duality}
use Rattle.assignment.proofs.laws.no_injection_costs_less.Goals as goal

pub returns : goal.returns
returns c = weak_duality
