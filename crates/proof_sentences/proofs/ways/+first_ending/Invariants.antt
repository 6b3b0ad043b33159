use Rattle.std.proofs.Common.{◌≡◌, ◌-◌, ◌==◌}
use Rattle.std.specs.List.{find}
use Rattle.assignment.specs.Assignments.{assignment_cost}
use Rattle.first_pairing.specs.Endings.{injections_ending}
use Rattle.first_pairing.proofs.Endings.{find_from}
use Rattle.proof_sentences.proofs.ways.+first_ending.Given as goal

abbrev pub decreases-first_ending : goal.decreases-first_ending
decreases-first_ending l = l.left

abbrev pub invariant-loop-file : goal.invariant-loop-file
invariant-loop-file l =
    find_from (λ way. assignment_cost l.costs way == l.least.cost) 8 (l.left - 1) l.files.items l.file ≡ find (λ way. assignment_cost l.costs way == l.least.cost) (injections_ending 8 l.left l.files.items)
