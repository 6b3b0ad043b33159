use Rattle.sketch_checker.proofs.LinesWalked.{tree-walk}
use Rattle.sketch_checker.proofs.laws.lines_walk_the_tree.Goals as goal

pub returns : goal.returns
returns c = tree-walk
