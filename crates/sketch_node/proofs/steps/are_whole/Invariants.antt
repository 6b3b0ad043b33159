use Rattle.std.proofs.Common.{◌≡◌, length, take}
use Rattle.std.specs.List.{Contains}
use Rattle.figures.specs.Figures.{Figure}
use Rattle.sketch_node.proofs.steps.are_whole.Given as goal

abbrev pub invariant-loop-figure : goal.invariant-loop-figure
invariant-loop-figure l = (f : Figure) → Contains (take l.figure-index l.figure-items) f → length f.squares ≡ 64
