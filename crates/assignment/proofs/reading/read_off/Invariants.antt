use Rattle.std.proofs.Common.{◌≡◌, map, take, slice_index}
use Rattle.assignment.proofs.reading.read_off.Given as goal

abbrev pub invariant-loop-m : goal.invariant-loop-m
invariant-loop-m g l = l.read.items ≡ map (slice_index l.numbers) (take l.m-index l.places.items)
