use Rattle.balance_rule.proofs.Sound.{least-both}
use Rattle.balance_rule.proofs.laws.costs_bound_walls.Goals as goal

pub returns : goal.returns
returns c = least-both
