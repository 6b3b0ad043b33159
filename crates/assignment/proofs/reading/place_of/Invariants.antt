use Rattle.std.proofs.Common.{◌≡◌, ℕ, ◌<◌, slice_index}
use Rattle.assignment.proofs.reading.place_of.Given as goal

abbrev pub invariant-loop-m : goal.invariant-loop-m
invariant-loop-m g l = (k : ℕ) → k < l.m → slice_index l.numbers k ≡ l.number → ⊥
