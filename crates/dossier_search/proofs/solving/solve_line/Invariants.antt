use Rattle.std.proofs.Common.{length}
use Rattle.dossier_search.specs.Begun.{IsBegun}
use Rattle.dossier_search.proofs.solving.solve_line.Given as goal

abbrev pub invariant-loop-claimed : goal.invariant-loop-claimed
invariant-loop-claimed l = IsBegun l.depth l.nodes l.claim l.query l.text.items l.due l.part

abbrev pub decreases-loop-claimed : goal.decreases-loop-claimed
decreases-loop-claimed l = length l.due
