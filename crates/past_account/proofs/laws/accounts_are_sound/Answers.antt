use Rattle.past_account.proofs.Closed.{closed-unfit, mark-forced}
use Rattle.past_account.proofs.laws.accounts_are_sound.Goals as goal

pub returns-clause-closed : goal.returns-clause-closed
returns-clause-closed c = closed-unfit

pub returns-clause-forced : goal.returns-clause-forced
returns-clause-forced c = mark-forced
