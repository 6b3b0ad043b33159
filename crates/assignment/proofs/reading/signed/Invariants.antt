use Rattle.std.proofs.Common.{◌≡◌, map, take, pos, slice_index}
use Rattle.assignment.proofs.reading.signed.Given as goal

abbrev pub invariant-loop-m : goal.invariant-loop-m
invariant-loop-m g l = l.signed.items ≡ map pos (map (slice_index l.numbers) (take l.m-index l.places.items))
