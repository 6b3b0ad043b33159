use Rattle.sketch_checker.proofs.Supporting.{supported-unreached, supports-exact, supports-one}
use Rattle.sketch_checker.proofs.laws.sketches_support.Goals as goal

pub returns-clause-no_game : goal.returns-clause-no_game
returns-clause-no_game c = supported-unreached

pub returns-clause-one : goal.returns-clause-one
returns-clause-one c = supports-one

pub returns-clause-exact : goal.returns-clause-exact
returns-clause-exact c = supports-exact
