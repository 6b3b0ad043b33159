use Rattle.std.proofs.Common.{◌≡◌, map, take}
use Rattle.sketch_sets.specs.Remade.{set_of}
use Rattle.sketch_sets.proofs.remade.has_same_sets.Given as goal

abbrev pub invariant-loop-i : goal.invariant-loop-i
invariant-loop-i l = map set_of (take l.i l.a) ≡ map set_of (take l.i l.b)
