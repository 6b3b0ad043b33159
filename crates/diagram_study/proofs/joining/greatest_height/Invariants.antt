use Rattle.std.proofs.Common.{take}
use Rattle.diagram_study.specs.Looks.{AreHeights}
use Rattle.diagram_study.proofs.joining.greatest_height.Given as goal

abbrev pub invariant-loop-seen : goal.invariant-loop-seen
invariant-loop-seen l = AreHeights l.but (take l.seen-index l.looked) l.greatest
