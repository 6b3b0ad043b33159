use Rattle.cage_rules.proofs.Histories.{reaches-leads, unreached}
use Rattle.cage_rules.proofs.laws.frozen_refutes.Goals as goal

pub returns-clause-from_odds : goal.returns-clause-from_odds
returns-clause-from_odds c = λ o q set frozen other g. unreached o g q set frozen other

pub returns-clause-reached : goal.returns-clause-reached
returns-clause-reached c = λ q set frozen other g reaches. unreached q.odds g q set frozen other (reaches-leads g q reaches)
