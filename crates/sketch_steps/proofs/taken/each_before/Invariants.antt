use Rattle.std.proofs.Common.{◌≡◌, length, take}
use Rattle.figures.specs.Figures.{each_changed}
use Rattle.sketch_steps.specs.Cleared.{changed_of}
use Rattle.sketch_steps.proofs.taken.each_before.Given as goal

abbrev pub invariant-loop-i : goal.invariant-loop-i
invariant-loop-i l = record {
  size : length l.before ≡ l.i;
  made : l.before ≡ each_changed (changed_of l.fn.colour l.step) 0 (take l.i l.figure-items);
}
