use Rattle.std.proofs.Common.{◌≡◌, ◌+◌, ◌-◌, length}
use Rattle.assignment.specs.Pairings.{IsTree}
use Rattle.assignment.proofs.tree.grow.Given as goal

abbrev pub invariant-growth : goal.invariant-growth
invariant-growth g l = record {
  size : length l.parents ≡ g.row.W;
  tree : IsTree l.costs g.row.W l.p l.n l.k l.parents;
}

abbrev pub decreases-growth : goal.decreases-growth
decreases-growth g l = (l.n + 1) - l.k
