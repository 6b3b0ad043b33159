use Rattle.sketch_checker.proofs.OneLine.{walk-one}
use Rattle.sketch_checker.proofs.SomeLine.{walk-some}
use Rattle.sketch_checker.proofs.laws.one_line_walk.Goals as goal

pub returns-clause-some : goal.returns-clause-some
returns-clause-some c = walk-some

pub returns-clause-one : goal.returns-clause-one
returns-clause-one c = walk-one
