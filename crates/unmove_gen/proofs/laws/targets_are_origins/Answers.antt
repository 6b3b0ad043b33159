use Rattle.unmove_gen.proofs.Members.{list-passes}
use Rattle.unmove_gen.proofs.Uncovered.{in-arrivals}
use Rattle.unmove_gen.proofs.laws.targets_are_origins.Goals as goal

pub returns : goal.returns
returns c = λ q u set whole o listed. in-arrivals q u set whole o (list-passes q u listed)
