use Rattle.cage_rules.proofs.Histories.{reaches-leads}
use Rattle.cage_rules.proofs.Refuted.{caps-refuted}
use Rattle.cage_rules.proofs.refutations.captures_refute.Goals as goal

pub returns-clause-from_odds : goal.returns-clause-from_odds
returns-clause-from_odds c = caps-refuted

pub returns-clause-reached : goal.returns-clause-reached
returns-clause-reached c = λ q set colour u v frozen many g reaches. caps-refuted q.odds q set colour u v frozen many g (reaches-leads g q reaches)
