use Rattle.std.proofs.Common.{◌≡◌, ◌↔◌, Bool, List, length}
use Rattle.sketch_text.specs.Trees.{Line}
use Rattle.sketch_proof.specs.Proofs.{Setting}
use Rattle.sketch_checker.specs.LineWalk.{ended}
use Rattle.sketch_checker.specs.Steering.{AllAble}
use Rattle.sketch_checker.specs.Walks.{Completes}
use Rattle.sketch_checker.proofs.frames.settle.Given as goal

abbrev pub invariant-closed : goal.invariant-closed
invariant-closed l = record {
  walk : (g : Setting) (lines : List Line) → Completes g l.frames lines ↔ Completes g l.fn.frames lines;
  able : (o : List Bool) → AllAble o l.fn.frames → AllAble o l.frames;
  still : ended l.frames ≡ ended l.fn.frames;
}

abbrev pub decreases-closed : goal.decreases-closed
decreases-closed l = length l.frames
