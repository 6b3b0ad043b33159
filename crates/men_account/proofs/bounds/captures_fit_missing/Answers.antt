use Rattle.men_account.proofs.Missing.{men-missing}
use Rattle.men_account.proofs.bounds.captures_fit_missing.Goals as goal

pub returns : goal.returns
returns c = men-missing
