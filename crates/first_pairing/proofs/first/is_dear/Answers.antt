use Rattle.std.proofs.Common.{ℕ, List, subst, arith}
use Rattle.first_pairing.specs.Endings.{CostAtLeast}
use Rattle.first_pairing.proofs.first.is_dear.Goals as goal

pub returns : goal.returns
returns c = λ h. (
  c.rest_cost.result,
  subst (λ (l : List ℕ). CostAtLeast 16 c.args.costs.now c.args.row l c.rest_cost.result) c.with_first-more.ensures c.rest_cost.ensures.bound,
  omega (arith, c.cost_at.ensures),
)
