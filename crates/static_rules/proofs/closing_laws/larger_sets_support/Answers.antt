use Rattle.static_rules.proofs.Larger.{caps-gains, promo-gains}
use Rattle.static_rules.proofs.closing_laws.larger_sets_support.Goals as goal

pub returns-clause-promo : goal.returns-clause-promo
returns-clause-promo c = promo-gains

pub returns-clause-caps : goal.returns-clause-caps
returns-clause-caps c = caps-gains
