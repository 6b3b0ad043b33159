use Rattle.men_account.proofs.Paired.{bound-captures, bound-missing}
use Rattle.men_account.proofs.bounds.potentials_bound_captures.Goals as goal

pub returns-clause-captures : goal.returns-clause-captures
returns-clause-captures c = bound-captures

pub returns-clause-missing : goal.returns-clause-missing
returns-clause-missing c = bound-missing
