use Rattle.std.proofs.Common.{◌≡◌, true, take}
use Rattle.std.specs.List.{list_all}
use Rattle.diagram_study.proofs.OneMove.{has_move}
use Rattle.diagram_study.proofs.retractions.have_move.Given as goal

abbrev pub invariant-loop-i : goal.invariant-loop-i
invariant-loop-i l = list_all (has_move l.m) (take l.i l.left) ≡ true
