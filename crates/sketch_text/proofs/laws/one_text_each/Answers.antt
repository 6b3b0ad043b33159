use Rattle.sketch_text.proofs.OneText.{head_law, marks_law, node_law}
use Rattle.sketch_text.proofs.laws.one_text_each.Goals as goal

pub returns-clause-head : goal.returns-clause-head
returns-clause-head c = head_law

pub returns-clause-node : goal.returns-clause-node
returns-clause-node c = node_law

pub returns-clause-marks : goal.returns-clause-marks
returns-clause-marks c = marks_law
