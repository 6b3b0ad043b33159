use Rattle.std.proofs.Common.{◌≡◌, length, reverse}
use Rattle.cert_checker.specs.Framing.{popped}
use Rattle.cert_checker.proofs.counting.settle_counts.Given as goal

abbrev pub invariant-closed : goal.invariant-closed
invariant-closed l = popped (reverse l.fn.counts.items) ≡ popped (reverse l.counts.items)

abbrev pub decreases-closed : goal.decreases-closed
decreases-closed l = length l.counts.items
