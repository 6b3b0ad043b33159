use Rattle.static_rules.proofs.Homes as homes
use Rattle.static_rules.proofs.laws.rights_have_homes.Goals as goal

pub returns : goal.returns
returns c = homes.rights_have_homes
