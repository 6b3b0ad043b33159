use Rattle.std.proofs.Common.{length}
use Rattle.sketch_trees.proofs.children.steps_of.Given as goal

abbrev pub decreases-loop-earlier : goal.decreases-loop-earlier
decreases-loop-earlier l = length l.steps
