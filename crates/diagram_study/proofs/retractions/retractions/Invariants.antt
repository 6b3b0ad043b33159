use Rattle.std.proofs.Common.{◌-◌, length}
use Rattle.diagram_study.specs.Looks.{AreLooked}
use Rattle.diagram_study.proofs.Leaving.{LeftSoFar}
use Rattle.diagram_study.proofs.retractions.retractions.Given as goal

abbrev pub invariant-loop-u : goal.invariant-loop-u
invariant-loop-u l = record {
  so_far : LeftSoFar l.subject.query (l.subject.limits.depth - 1) l.subject.limits.nodes l.unmoves l.left l.all;
  looked : AreLooked l.subject.query (l.subject.limits.depth - 1) l.subject.limits.nodes l.unmoves l.left l.looked.items;
}

abbrev pub decreases-loop-u : goal.decreases-loop-u
decreases-loop-u l = length l.unmoves
