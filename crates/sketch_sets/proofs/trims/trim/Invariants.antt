use Rattle.std.proofs.Common.{◌≡◌, ℕ}
use Rattle.figures.specs.Trimmed.{trims}
use Rattle.sketch_sets.specs.Remade.{AreWhole}
use Rattle.sketch_sets.proofs.Sizes.{total}
use Rattle.sketch_sets.proofs.trims.trim.Given as goal

abbrev pub invariant-rounds : goal.invariant-rounds
invariant-rounds l = record {
  whole : AreWhole l.left;
  rounds : (n : ℕ) × (l.left ≡ trims n l.sketch);
}

abbrev pub decreases-rounds : goal.decreases-rounds
decreases-rounds l = total l.left
