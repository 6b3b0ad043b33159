use Rattle.retro_search.proofs.Costs.Deeper.{deeper_cost, deeper_refutable}
use Rattle.retro_search.proofs.laws.deeper_searches_refute_more.Goals as goal

pub returns : goal.returns
returns c = record {
  refutable = λ q k depth ancestors low ref. deeper_refutable q k depth ancestors low ref;
  cost = λ q k depth ancestors n low ref cost. deeper_cost q k depth ancestors n low ref cost;
}
