use Rattle.sketch_checker.proofs.Held.{walk-tells, walk-told}
use Rattle.sketch_checker.proofs.laws.sketch_walk_proves.Goals as goal

pub returns : goal.returns
returns c = λ x g d n some. (λ it. walk-told x g d n it.0 it.1, λ holds. walk-tells x g d n some holds)
