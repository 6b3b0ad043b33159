use Rattle.sketch_checker.proofs.Supporting.{bodies-exact, bodies-one, body-unreached}
use Rattle.sketch_checker.proofs.laws.bodies_support.Goals as goal

pub returns-clause-no_game : goal.returns-clause-no_game
returns-clause-no_game c = body-unreached

pub returns-clause-one : goal.returns-clause-one
returns-clause-one c = bodies-one

pub returns-clause-exact : goal.returns-clause-exact
returns-clause-exact c = bodies-exact
