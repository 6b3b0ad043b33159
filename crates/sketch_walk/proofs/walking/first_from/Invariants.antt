use Rattle.std.proofs.Common.{◌≡◌, ◌-◌, ◌*◌, Bool, List, length}
use Rattle.sketch_walk.specs.Cursors.{IsInside, number_of}
use Rattle.sketch_walk.specs.Shorts.{AreShort}
use Rattle.sketch_walk.specs.Walks.{left_of}
use Rattle.sketch_walk.proofs.walking.first_from.Given as goal

abbrev pub invariant-places : goal.invariant-places
invariant-places l = record {
  inside : IsInside l.cursor;
  left : (o : List Bool) → AreShort o l.sketch l.shorts → left_of o l.exact l.sketch l.fn.start ≡ left_of o l.exact l.sketch l.cursor;
}

abbrev pub decreases-places : goal.decreases-places
decreases-places l = 42240 * length l.sketch - number_of l.cursor
