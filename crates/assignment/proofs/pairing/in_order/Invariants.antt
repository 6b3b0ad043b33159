use Rattle.std.proofs.Common.{◌≡◌, ℕ, ◌<◌, length, slice_index}
use Rattle.assignment.proofs.pairing.in_order.Given as goal

abbrev pub invariant-loop-i : goal.invariant-loop-i
invariant-loop-i g l = record {
  size : length l.numbers ≡ g.row.W;
  done : (m : ℕ) → m < l.i → slice_index l.numbers m ≡ m;
}
