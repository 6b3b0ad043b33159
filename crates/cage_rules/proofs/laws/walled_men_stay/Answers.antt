use Rattle.cage_rules.proofs.Gone.{shielded-safe, shielded-unpawned}
use Rattle.cage_rules.proofs.Roamers.{in-region}
use Rattle.cage_rules.proofs.WalledGames.{caged-walled, walled-stands}
use Rattle.cage_rules.proofs.laws.walled_men_stay.Goals as goal

pub returns-clause-frozen : goal.returns-clause-frozen
returns-clause-frozen c = caged-walled

pub returns-clause-stood : goal.returns-clause-stood
returns-clause-stood c = walled-stands

pub returns-clause-region : goal.returns-clause-region
returns-clause-region c = in-region

pub returns-clause-safe : goal.returns-clause-safe
returns-clause-safe c = shielded-safe

pub returns-clause-shielded : goal.returns-clause-shielded
returns-clause-shielded c = shielded-unpawned
