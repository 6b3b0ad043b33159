use Rattle.std.proofs.Common.{◌≡◌, ◌≤◌, List, Bool, length, map, take}
use Rattle.figures.specs.Figures.{Figure}
use Rattle.sketch_sets.specs.Remade.{with_set}
use Rattle.sketch_sets.proofs.remade.with_sets.Given as goal

abbrev pub invariant-loop-figure : goal.invariant-loop-figure
invariant-loop-figure g l = record {
  size : length l.made ≡ l.figure-index;
  few : length l.figure-items ≤ 32;
  made : (h : Figure → List Bool) → ((f : Figure) (set : List Bool) → goal.F-post g l.fn.sets f set → set ≡ h f) → l.made ≡ map (with_set h) (take l.figure-index l.figure-items);
}
