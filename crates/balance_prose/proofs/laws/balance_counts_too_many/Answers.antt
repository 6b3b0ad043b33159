use Rattle.balance_prose.proofs.Sums.{counts-too-many}
use Rattle.balance_prose.proofs.laws.balance_counts_too_many.Goals as goal

pub returns : goal.returns
returns c = counts-too-many
