use Rattle.std.proofs.Common.{◌≡◌, ◌≤◌, length, take}
use Rattle.past_account.specs.Zones.{AreZones}
use Rattle.sketch_grounds.specs.LeastZones.{pair_zones}
use Rattle.sketch_grounds.specs.Wide.{AreWide}
use Rattle.sketch_grounds.proofs.zones.zones_of.Given as goal

abbrev pub invariant-loop-figure : goal.invariant-loop-figure
invariant-loop-figure l = record {
  few : length l.sets.items ≤ l.figure-index;
  wide : AreWide l.sets.items l.squares;
  are : l.sets.items ≡ pair_zones l.fn.wall (take l.figure-index l.sketch);
  zones : AreZones l.fn.wall l.sketch l.sets.items;
}
