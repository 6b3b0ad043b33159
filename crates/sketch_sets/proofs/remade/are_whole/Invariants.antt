use Rattle.std.proofs.Common.{take}
use Rattle.sketch_sets.specs.Remade.{AreWhole}
use Rattle.sketch_sets.proofs.remade.are_whole.Given as goal

abbrev pub invariant-loop-figure : goal.invariant-loop-figure
invariant-loop-figure l = AreWhole (take l.figure-index l.figure-items)
