use Rattle.retro_search.proofs.Costs.WholeSizes.{cost_fits, size_exists, size_one}
use Rattle.retro_search.proofs.laws.one_search_size_each.Goals as goal

pub returns : goal.returns
returns c = record {
  some = λ q depth ancestors. size_exists depth q ancestors;
  one = λ q depth ancestors m n a b. size_one depth q ancestors m n a b;
  costs_fit = λ q depth ancestors m n a b. cost_fits depth q ancestors m n a b;
}
