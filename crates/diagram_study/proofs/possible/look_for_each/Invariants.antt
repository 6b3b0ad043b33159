use Rattle.claim_findings.specs.Decisions.{Grows}
use Rattle.diagram_study.proofs.possible.look_for_each.Given as goal

abbrev pub invariant-loop-i : goal.invariant-loop-i
invariant-loop-i l = Grows l.initial.games.found.items l.games.found.items
