use Rattle.balance_rule.proofs.Sound.{balance-closed, balance-unreached}
use Rattle.balance_rule.proofs.laws.balance_closes.Goals as goal

pub returns-clause-from_odds : goal.returns-clause-from_odds
returns-clause-from_odds c = balance-closed

pub returns-clause-reached : goal.returns-clause-reached
returns-clause-reached c = balance-unreached
