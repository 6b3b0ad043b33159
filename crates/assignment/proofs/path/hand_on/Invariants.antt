use Rattle.std.proofs.Common.{ℕ, ◌<◌, ◌≤◌, List, slice_index}
use Rattle.assignment.specs.Pairings.{IsHanding}
use Rattle.assignment.proofs.path.hand_on.Given as goal

abbrev pub invariant-loop-m : goal.invariant-loop-m
invariant-loop-m g l = record {
  within : l.m < g.row.W;
  earlier : (i : ℕ) → 1 ≤ i → i ≤ l.m → slice_index l.parents i < i;
  handing : (table : List (List ℕ)) (n : ℕ) → IsHanding table g.row.W l.initial.p n l.from l.to l.parents → IsHanding table g.row.W l.p n l.m l.to l.parents;
}

abbrev pub decreases-loop-m : goal.decreases-loop-m
decreases-loop-m g l = l.m
