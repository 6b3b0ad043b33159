use Rattle.static_rules.proofs.Closed.{caps-closed, caps-unreached}
use Rattle.static_rules.proofs.set_laws.caps_closes.Goals as goal

pub returns-clause-from_odds : goal.returns-clause-from_odds
returns-clause-from_odds c = caps-closed

pub returns-clause-reached : goal.returns-clause-reached
returns-clause-reached c = caps-unreached
