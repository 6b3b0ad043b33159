use Rattle.std.proofs.Common.{◌+◌, ◌*◌}
use Rattle.sketch_trees.proofs.search.Search.+refuting.Given as goal

abbrev pub decreases-refutes_all : goal.decreases-refutes_all
decreases-refutes_all l = 3 * l.room + 2

abbrev pub decreases-refutes : goal.decreases-refutes
decreases-refutes l = 3 * l.room + 1

abbrev pub decreases-refutes_cases : goal.decreases-refutes_cases
decreases-refutes_cases l = 3 * l.room
