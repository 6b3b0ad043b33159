use Rattle.sketch_account.proofs.Plain.{cost-same}
use Rattle.sketch_account.proofs.laws.plain_accounts_balance.Goals as goal

pub returns : goal.returns
returns c = λ o board p set side. cost-same o p set side board
