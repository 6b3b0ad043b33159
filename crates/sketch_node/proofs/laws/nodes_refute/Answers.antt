use Rattle.sketch_node.proofs.Helping.{forces-more}
use Rattle.sketch_node.proofs.Least.{least-one}
use Rattle.sketch_node.proofs.Several.{marks-refute}
use Rattle.sketch_node.proofs.Trees.{cases-refute, closes-refutes, steps-refute}
use Rattle.sketch_node.proofs.laws.nodes_refute.Goals as goal

pub returns-clause-closed : goal.returns-clause-closed
returns-clause-closed c = closes-refutes

pub returns-clause-marks : goal.returns-clause-marks
returns-clause-marks c = marks-refute

pub returns-clause-help : goal.returns-clause-help
returns-clause-help c = forces-more

pub returns-clause-cases : goal.returns-clause-cases
returns-clause-cases c = cases-refute

pub returns-clause-steps : goal.returns-clause-steps
returns-clause-steps c = steps-refute

pub returns-clause-one : goal.returns-clause-one
returns-clause-one c = least-one
