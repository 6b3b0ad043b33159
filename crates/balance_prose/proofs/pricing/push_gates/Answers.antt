use Rattle.balance_prose.proofs.Known.{gates-inside}
use Rattle.balance_prose.proofs.pricing.push_gates.Goals as goal

pub tolls_of-requires : goal.tolls_of-requires
tolls_of-requires c = rw c.gates.ensures.value (gates-inside c.args.prices.now c.gates.ensures.range)
