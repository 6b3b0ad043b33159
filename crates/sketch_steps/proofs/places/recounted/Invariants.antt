use Rattle.std.proofs.Common.{◌≡◌, ◌≤◌, length, map, take}
use Rattle.sketch_steps.specs.Places.{placed_in}
use Rattle.sketch_steps.proofs.places.recounted.Given as goal

abbrev pub invariant-loop-figure : goal.invariant-loop-figure
invariant-loop-figure l = record {
  size : length l.made ≡ l.figure-index;
  few : length l.figure-items ≤ 32;
  made : l.made ≡ map (placed_in l.sketch) (take l.figure-index l.figure-items);
}
