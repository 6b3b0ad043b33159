use Rattle.std.proofs.Common.{◌≡◌, ◌≤◌, ◌+◌, ◌==◌, length, take}
use Rattle.std.specs.List.{list_any}
use Rattle.figures.specs.Figures.{each_changed}
use Rattle.sketch_node.proofs.Helping.{marked_if}
use Rattle.sketch_node.proofs.marks.with_marks.Given as goal

abbrev pub invariant-loop-i : goal.invariant-loop-i
invariant-loop-i l = record {
  size : length l.made ≡ l.i;
  few : length l.figure-items ≤ 32;
  made : l.made ≡ each_changed (λ i f. marked_if (list_any (λ n. n == i + 1) l.numbers) f) 0 (take l.i l.figure-items);
}
