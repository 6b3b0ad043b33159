use Rattle.static_rules.proofs.Larger.{caps-by-greatest, frozen-by-greatest, promo-by-greatest}
use Rattle.static_rules.proofs.closing_laws.greatest_sets_decide.Goals as goal

pub returns-clause-frozen : goal.returns-clause-frozen
returns-clause-frozen c = frozen-by-greatest

pub returns-clause-promo : goal.returns-clause-promo
returns-clause-promo c = promo-by-greatest

pub returns-clause-caps : goal.returns-clause-caps
returns-clause-caps c = caps-by-greatest
