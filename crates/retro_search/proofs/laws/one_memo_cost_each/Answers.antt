use Rattle.retro_search.proofs.Costs.OneCost.{memo_cost_exists, memo_cost_one}
use Rattle.retro_search.proofs.laws.one_memo_cost_each.Goals as goal

pub returns : goal.returns
returns c = record { some = λ q depth. memo_cost_exists depth q; one = λ q depth m n a b. memo_cost_one depth q m n a b }
