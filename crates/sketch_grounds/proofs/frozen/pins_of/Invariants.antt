use Rattle.std.proofs.Common.{◌≤◌, length, take}
use Rattle.sketch_grounds.specs.Pins.{ArePins}
use Rattle.sketch_grounds.proofs.frozen.pins_of.Given as goal

abbrev pub invariant-loop-figure : goal.invariant-loop-figure
invariant-loop-figure l = record {
  few : length l.pins.items ≤ l.figure-index;
  are : ArePins l.fn.held (take l.figure-index l.sketch) l.pins.items;
}
