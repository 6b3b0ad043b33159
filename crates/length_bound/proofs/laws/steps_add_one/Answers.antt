use Rattle.length_bound.proofs.Stepping.{no-step, steps-most, one-step}
use Rattle.length_bound.proofs.Direct.{steps-direct}
use Rattle.length_bound.proofs.laws.steps_add_one.Goals as goal

pub returns-clause-none : goal.returns-clause-none
returns-clause-none c = no-step

pub returns-clause-most : goal.returns-clause-most
returns-clause-most c = steps-most

pub returns-clause-one : goal.returns-clause-one
returns-clause-one c = one-step

pub returns-clause-direct : goal.returns-clause-direct
returns-clause-direct c = steps-direct
