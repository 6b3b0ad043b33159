use Rattle.std.proofs.Common.{◌≡◌, length}
use Rattle.sketch_body.specs.Due.{settled}
use Rattle.sketch_body.proofs.counts.settle.Given as goal

abbrev pub invariant-zeros : goal.invariant-zeros
invariant-zeros l = settled l.counts ≡ settled l.fn.counts

abbrev pub decreases-zeros : goal.decreases-zeros
decreases-zeros l = length l.counts
