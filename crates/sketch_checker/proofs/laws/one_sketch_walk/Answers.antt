use Rattle.sketch_checker.proofs.OneWalk.{one-walk}
use Rattle.sketch_checker.proofs.laws.one_sketch_walk.Goals as goal

pub returns : goal.returns
returns c = one-walk
