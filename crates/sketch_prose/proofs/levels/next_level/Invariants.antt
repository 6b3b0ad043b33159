use Rattle.std.proofs.Common.{List, length}
use Rattle.sketch_proof.specs.Proofs.{Setting}
use Rattle.sketch_prose.specs.Levels.{AreLeft, Passes}
use Rattle.sketch_prose.proofs.levels.next_level.Given as goal
use Rattle.sketch_text.specs.Trees.{Line, Nodes}

abbrev pub invariant-levels : goal.invariant-levels
invariant-levels l = (g : Setting) (fs : List Nodes) (lines : List Line) → AreLeft g l.fn.levels fs lines → Passes g l.fn.levels fs l.levels lines

abbrev pub decreases-levels : goal.decreases-levels
decreases-levels l = length l.levels
