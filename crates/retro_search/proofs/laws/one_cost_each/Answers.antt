use Rattle.retro_search.proofs.Costs.OneCost.{cost_exists, cost_one}
use Rattle.retro_search.proofs.laws.one_cost_each.Goals as goal

pub returns : goal.returns
returns c = record { some = λ q depth ancestors. cost_exists depth q ancestors; one = λ q depth ancestors m n a b. cost_one depth q ancestors m n a b }
