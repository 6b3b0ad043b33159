use Rattle.std.proofs.Common.{◌≡◌, ◌≤◌, drop}
use Rattle.sketch_text.specs.Marks.{are_figures}
use Rattle.sketch_found.proofs.ranges.are_figures.Given as goal

abbrev pub invariant-loop-figure : goal.invariant-loop-figure
invariant-loop-figure l = record {
  low : l.least ≤ 33;
  rest : are_figures 1 l.figures ≡ are_figures l.least (drop l.figure-index l.figures);
}
