use Rattle.static_rules.proofs.Closed.{promo-closed, promo-unreached}
use Rattle.static_rules.proofs.set_laws.promo_closes.Goals as goal

pub returns-clause-from_odds : goal.returns-clause-from_odds
returns-clause-from_odds c = promo-closed

pub returns-clause-reached : goal.returns-clause-reached
returns-clause-reached c = promo-unreached
