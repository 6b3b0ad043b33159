use Rattle.std.proofs.Common.{take}
use Rattle.diagram_study.specs.Possible.{AreEnds}
use Rattle.diagram_study.proofs.possible.ends_among.Given as goal

abbrev pub invariant-loop-i : goal.invariant-loop-i
invariant-loop-i l = AreEnds l.games.found.items l.query (take l.i l.left) l.ends
