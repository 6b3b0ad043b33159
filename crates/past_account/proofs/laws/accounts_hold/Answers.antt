use Rattle.past_account.proofs.Marking.{account-closes, account-forces}
use Rattle.past_account.proofs.laws.accounts_hold.Goals as goal

pub returns-clause-close : goal.returns-clause-close
returns-clause-close c = account-closes

pub returns-clause-force : goal.returns-clause-force
returns-clause-force c = account-forces
