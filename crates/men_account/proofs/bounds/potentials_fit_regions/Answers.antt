use Rattle.men_account.proofs.InRegions.{potentials-regions}
use Rattle.men_account.proofs.bounds.potentials_fit_regions.Goals as goal

pub returns : goal.returns
returns c = potentials-regions
