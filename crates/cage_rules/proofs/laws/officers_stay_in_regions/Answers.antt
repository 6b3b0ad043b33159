use Rattle.cage_rules.proofs.Gone.{dead-gone, shielded-safe, shielded-unpawned}
use Rattle.cage_rules.proofs.Roamers.{in-region}
use Rattle.cage_rules.proofs.WalledGames.{caged-walled}
use Rattle.cage_rules.proofs.laws.officers_stay_in_regions.Goals as goal

pub returns-clause-region : goal.returns-clause-region
returns-clause-region c = λ o g q set h caged. in-region o g set h (caged-walled o g q set caged)

pub returns-clause-dead : goal.returns-clause-dead
returns-clause-dead c = dead-gone

pub returns-clause-safe : goal.returns-clause-safe
returns-clause-safe c = λ o g q set h caged. shielded-safe o g set h (caged-walled o g q set caged)

pub returns-clause-shielded : goal.returns-clause-shielded
returns-clause-shielded c = λ o g q set h caged. shielded-unpawned o g set h (caged-walled o g q set caged)
