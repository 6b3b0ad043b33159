use Rattle.men_account.proofs.Homes.{promotions-most}
use Rattle.men_account.proofs.bounds.promotions_fit_homes.Goals as goal

pub returns : goal.returns
returns c = promotions-most
