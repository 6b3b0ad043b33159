use Rattle.cage_rules.proofs.Histories.{reaches-leads}
use Rattle.cage_rules.proofs.Refuted.{promo-refuted}
use Rattle.cage_rules.proofs.refutations.promotions_refute.Goals as goal

pub returns-clause-from_odds : goal.returns-clause-from_odds
returns-clause-from_odds c = promo-refuted

pub returns-clause-reached : goal.returns-clause-reached
returns-clause-reached c = λ q set colour frozen many g reaches. promo-refuted q.odds q set colour frozen many g (reaches-leads g q reaches)
