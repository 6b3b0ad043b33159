use Rattle.std.proofs.Common.{◌≡◌, ◌-◌, ◌==◌}
use Rattle.std.specs.List.{find}
use Rattle.assignment.specs.Assignments.{assignment_cost}
use Rattle.first_pairing.specs.Endings.{injections_ending}
use Rattle.first_pairing.proofs.Endings.{find_from}
use Rattle.first_pairing.proofs.first.+first_ending.Given as goal

abbrev pub decreases-first_ending : goal.decreases-first_ending
decreases-first_ending l = l.left

abbrev pub invariant-loop-column : goal.invariant-loop-column
invariant-loop-column l =
    find_from (λ way. assignment_cost l.costs way == l.solution.cost) 16 (l.left - 1) l.columns.items l.column ≡ find (λ way. assignment_cost l.costs way == l.solution.cost) (injections_ending 16 l.left l.columns.items)
