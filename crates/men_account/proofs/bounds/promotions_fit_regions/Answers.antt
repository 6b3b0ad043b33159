use Rattle.men_account.proofs.InRegions.{promotions-regions}
use Rattle.men_account.proofs.bounds.promotions_fit_regions.Goals as goal

pub returns : goal.returns
returns c = promotions-regions
