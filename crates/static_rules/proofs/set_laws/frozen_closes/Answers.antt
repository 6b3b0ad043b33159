use Rattle.static_rules.proofs.Closed.{frozen-closed, frozen-unreached}
use Rattle.static_rules.proofs.set_laws.frozen_closes.Goals as goal

pub returns-clause-from_odds : goal.returns-clause-from_odds
returns-clause-from_odds c = frozen-closed

pub returns-clause-reached : goal.returns-clause-reached
returns-clause-reached c = frozen-unreached
