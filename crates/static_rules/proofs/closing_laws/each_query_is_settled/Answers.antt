use Rattle.static_rules.proofs.Settled.{closed_settled}
use Rattle.static_rules.proofs.closing_laws.each_query_is_settled.Goals as goal

pub returns : goal.returns
returns c = closed_settled
