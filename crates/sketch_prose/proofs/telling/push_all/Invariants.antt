use Rattle.std.proofs.Common.{List, drop, map}
use Rattle.sketch_body.specs.Seen.{line_of}
use Rattle.sketch_prose.specs.Bases.{AreKnown, setting_with}
use Rattle.sketch_prose.specs.Levels.{AreLeft, GoesOn}
use Rattle.sketch_prose.proofs.telling.push_all.Given as goal
use Rattle.sketch_text.specs.Trees.{Nodes}

abbrev pub invariant-loop-i : goal.invariant-loop-i
invariant-loop-i l =
    AreKnown l.prices → (fs : List Nodes) → AreLeft (setting_with l.base l.prices) l.fn.levels fs (map line_of l.lines) → GoesOn (setting_with l.base l.prices) l.base.diagram l.fn.levels fs l.levels (drop l.skipped (drop l.i (map line_of l.lines))) l.fn.out.items l.out.items
