use Rattle.std.proofs.Common.{take}
use Rattle.diagram_study.specs.Held.{AreHeldFound}
use Rattle.diagram_study.proofs.held.find_held.Given as goal

abbrev pub invariant-loop-found : goal.invariant-loop-found
invariant-loop-found l = AreHeldFound l.query l.known (take l.found-index l.rights) l.held.items
